pub mod Stepping
pub mod Placing
