mod Answering
pub mod Applying
pub mod Loops
pub mod Requesting
