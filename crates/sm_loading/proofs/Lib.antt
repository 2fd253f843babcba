pub mod EntryLimits
pub mod Files
