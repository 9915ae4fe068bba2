pub mod Sets
pub mod Regions
