pub mod Windows
pub mod Skipping
