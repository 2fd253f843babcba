pub mod Words
pub mod Errors
pub mod Briefs
pub mod Checks
