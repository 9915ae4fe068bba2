pub mod Counts
pub mod Keys
pub mod Merging
pub mod Halves
pub mod SortedKeys
pub mod CodeOrder
