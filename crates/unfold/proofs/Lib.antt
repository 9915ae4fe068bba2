pub mod Pushing
pub mod Running
pub mod Working
pub mod EmissionStack
