pub mod Meanings
pub mod Forms
pub mod Merging
