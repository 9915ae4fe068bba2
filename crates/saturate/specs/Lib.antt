pub mod Adding
pub mod Rounds
pub mod Limits
