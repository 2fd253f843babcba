pub mod Blocks
pub mod Combined
pub mod WordBlocks
pub mod SignedLanes
pub mod ComparedLanes
pub mod BitPlaces
pub mod CountedOnes
pub mod BlockSteps
