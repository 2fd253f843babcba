pub mod Flattening
pub mod Regularity
pub mod Counts
pub mod FlatParts
