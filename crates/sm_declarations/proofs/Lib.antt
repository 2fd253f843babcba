pub mod Counting
pub mod Eaches
pub mod Members
pub mod Growing
pub mod LimitTrials
pub mod Families
pub mod Beginning
