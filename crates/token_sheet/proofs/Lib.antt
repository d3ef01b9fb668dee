pub mod Spaces
pub mod Tokens
pub mod Pages
pub mod Put
