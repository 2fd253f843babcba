pub mod Views
pub mod Built
pub mod Held
pub mod Turns
pub mod Finish
pub mod Agreement
pub mod Rows
