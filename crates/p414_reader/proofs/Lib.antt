pub mod Meaning
pub mod Lists
pub mod Closing
pub mod Readings
pub mod Complete
pub mod Fixed
pub mod Needs
pub mod Blocks
pub mod Sound
pub mod Language
mod Words
mod Choosing
pub mod Kept
pub mod LabelSets
pub mod Clauses
pub mod Spelt
