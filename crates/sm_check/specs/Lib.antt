pub mod Replays
pub mod Checks
pub mod Feeds
pub mod Readings
