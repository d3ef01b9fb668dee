pub mod BitLists
pub mod Counts
pub mod Masks
pub mod Splices
pub mod Windows
pub mod Words
