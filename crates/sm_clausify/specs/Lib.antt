pub mod Propositions
pub mod Clauses
pub mod Counting
pub mod Tallies
pub mod Truth
