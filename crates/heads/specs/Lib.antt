pub mod Rounds
pub mod Jobs
pub mod Heads
