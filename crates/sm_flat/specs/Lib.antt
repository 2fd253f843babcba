pub mod Models
pub mod Assignments
pub mod Forms
pub mod Goals
pub mod Solutions
pub mod Limits
pub mod Subproblems
