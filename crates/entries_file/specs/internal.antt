pub mod Kept
pub mod Staged
pub mod KeySets
pub mod Drafts
