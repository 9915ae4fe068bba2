pub mod Counting
pub mod Turning
