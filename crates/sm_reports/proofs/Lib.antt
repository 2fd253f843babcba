pub mod Pieces
pub mod Divisors
mod Rows
