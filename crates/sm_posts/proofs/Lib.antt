pub mod Additions
pub mod Loops
