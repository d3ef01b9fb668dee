pub mod Steps
pub mod Counts
pub mod Listing
pub mod Additions
pub mod Quotients
pub mod Constraints
