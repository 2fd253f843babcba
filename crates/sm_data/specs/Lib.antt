pub mod Paths
pub mod Numbers
pub mod Documents
pub mod Records
pub mod Files
