pub mod Tracing
pub mod Steps
pub mod Backwards
pub mod Deciding
