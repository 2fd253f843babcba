pub mod RowParts
pub mod Rows
pub mod Steps
