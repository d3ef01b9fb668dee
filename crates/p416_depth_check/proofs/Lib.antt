pub mod Counts
pub mod Walking
mod DeepUses
