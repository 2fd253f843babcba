pub mod Told
pub mod Loads
pub mod Searches
pub mod Checks
pub mod Whole
