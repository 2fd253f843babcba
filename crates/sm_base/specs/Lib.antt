pub mod Bytes
pub mod Causes
pub mod Memory
pub mod Outside
pub mod Whole
