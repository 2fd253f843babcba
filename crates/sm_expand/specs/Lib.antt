pub mod Expanding
pub mod Subproblems
