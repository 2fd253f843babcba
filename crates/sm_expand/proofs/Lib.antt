pub mod ItemSteps
pub mod Standing
pub mod Torn
pub mod Whole
pub mod Listings
