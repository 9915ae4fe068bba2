pub mod StateNumbers
pub mod StateSets
