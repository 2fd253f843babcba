pub mod Forms
pub mod Aims
pub mod Trials
