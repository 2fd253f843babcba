pub mod Seeking
pub mod Entries
