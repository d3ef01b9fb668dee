pub mod Entering
pub mod Labelling
mod Mixing
pub mod Pairing
