pub mod Halves
pub mod Inferences
pub mod Whole
pub mod Rows
pub mod Terms
pub mod Boxes
pub mod Links
pub mod Forms
