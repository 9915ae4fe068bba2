pub mod Sets
pub mod OwnGroups
pub mod Filling
