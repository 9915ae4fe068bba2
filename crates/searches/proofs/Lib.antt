pub mod FreshPaths
pub mod RoundHeads
pub mod Skipping
pub mod UniqueRound
