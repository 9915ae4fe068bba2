pub mod Kinds
pub mod Places
pub mod Reading
pub mod Present
