pub mod Sources
pub mod Made
pub mod KeyCodes
pub mod Coding
pub mod RoundZero
pub mod Writing
