mod OwnedSets
pub mod Once
pub mod Found
