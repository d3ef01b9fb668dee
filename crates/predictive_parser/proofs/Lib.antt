mod FirstRow
pub mod Refusals
pub mod Refused
pub mod Chains
pub mod Meanings
pub mod Closings
pub mod Languages
pub mod Turns
