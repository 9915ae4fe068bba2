pub mod Sorting
pub mod Codes
