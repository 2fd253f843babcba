pub mod Values
pub mod Products
pub mod Named
pub mod Sums
