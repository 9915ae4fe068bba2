pub mod Places
pub mod Ranks
