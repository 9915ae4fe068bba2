pub mod Regions
pub mod StackNumbers
