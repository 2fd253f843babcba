pub mod Greatest
pub mod Inferring
pub mod Fitting
pub mod Sums
pub mod Between
pub mod FormLaws
