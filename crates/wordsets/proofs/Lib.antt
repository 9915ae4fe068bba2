pub mod Bits
pub mod WordSets
pub mod States
pub mod RestBits
