mod Places
pub mod Members
pub mod Depths
pub mod Lists
pub mod Actions
pub mod Declared
pub mod Controls
pub mod Accepted
pub mod Once
pub mod Whole
