pub mod ScratchRegions
pub mod OwnGroups
pub mod Adding
pub mod LastStates
pub mod LastSet
pub mod Filling
