pub mod Scopes
pub mod Types
pub mod Tables
pub mod Places
