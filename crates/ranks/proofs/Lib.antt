pub mod Counts
pub mod Noting
pub mod Places
pub mod Sorts
pub mod Swaps
