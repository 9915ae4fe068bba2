pub mod Decimals
pub mod LineTexts
pub mod Texts
pub mod Verdicts
