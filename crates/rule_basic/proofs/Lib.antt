pub mod Cutting
pub mod Choosing
pub mod RowLaws
pub mod Fitting
pub mod Naming
