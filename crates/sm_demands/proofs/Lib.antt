pub mod Makes
pub mod Nodes
pub mod TagTrials
