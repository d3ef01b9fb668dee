pub mod Exactly
pub mod Groups
pub mod Leaving
pub mod Orders
pub mod Telling
pub mod Uses
