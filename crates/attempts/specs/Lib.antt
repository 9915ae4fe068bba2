pub mod Attempts
pub mod Turns
