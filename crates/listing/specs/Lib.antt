pub mod LineText
pub mod Listing
pub mod Puts
pub mod SmallTexts
