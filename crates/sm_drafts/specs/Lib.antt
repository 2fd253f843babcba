pub mod Drafts
pub mod Sums
pub mod TagDrafts
