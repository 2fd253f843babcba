pub mod Devices
pub mod Causes
pub mod Endings
pub mod Telling
pub mod Searching
