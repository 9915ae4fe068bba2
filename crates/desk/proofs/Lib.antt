pub mod Accounts
pub mod Moving
pub mod Opening
