pub mod Arrivals
pub mod Arriving
pub mod Glances
pub mod Extending
pub mod Turns
pub mod Looping
pub mod HeadAdditions
