pub mod Piles
pub mod Scans
pub mod Firings
pub mod CodeTests
