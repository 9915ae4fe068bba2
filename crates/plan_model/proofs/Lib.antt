-- The theorems about the plan, for the crates above. Main has the top statements; Weeks is for the code too.
pub mod Weeks
pub mod MinuteOrder
pub mod FirstMinutes
pub mod Plans
pub mod Main
