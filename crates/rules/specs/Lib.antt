pub mod Regions
pub mod Rules
