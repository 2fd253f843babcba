pub mod Eaches
pub mod Loops
pub mod Views
pub mod EntryTrials
