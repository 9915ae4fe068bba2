pub mod Leaders
pub mod Chains
pub mod Chaining
