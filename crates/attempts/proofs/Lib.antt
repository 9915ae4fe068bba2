pub mod PathsLeft
pub mod PackedStates
pub mod Places
pub mod Stacks
pub mod Ways
pub mod Turning
pub mod Attempting
