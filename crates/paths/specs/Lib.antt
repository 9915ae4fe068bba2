pub mod Arrivals
pub mod Jobs
