pub mod Going
pub mod Ends
pub mod Outcomes
