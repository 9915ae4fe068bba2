pub mod StateNumbers
pub mod StateSets
pub mod Equality
