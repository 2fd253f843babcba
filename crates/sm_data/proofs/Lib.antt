pub mod Each
pub mod Arrays
pub mod Widths
pub mod Readings
pub mod Entries
pub mod Outcomes
