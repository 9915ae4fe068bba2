pub mod Checking
pub mod Promises
