pub mod Cutting
pub mod Ends
pub mod Feeding
pub mod Outcomes
pub mod Truths
pub mod Readings
