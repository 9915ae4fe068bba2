pub mod CopyingOf
pub mod Mixing
