pub mod Weights
pub mod Went
pub mod Fits
pub mod Leaves
pub mod Picks
pub mod Turns
pub mod Refusals
