pub mod Integers
pub mod Coefficients
pub mod Merges
pub mod Values
pub mod Queries
pub mod Scaling
pub mod Products
pub mod Uniqueness
