pub mod Groups
pub mod GrowingLists
pub mod Mixing
