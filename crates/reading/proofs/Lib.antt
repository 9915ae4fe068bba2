-- Laws of the reading of a table.
pub mod Marks
pub mod Ranges
pub mod Twins
pub mod Values
