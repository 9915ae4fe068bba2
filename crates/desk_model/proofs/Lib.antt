-- The theorems about the desk, for the crates above. Main has the top statement; DeskChecks is for the code too.
pub mod DeskChecks
pub mod Desks
pub mod Main
