pub mod Keeping
pub mod Beginning
pub mod Deparsing
pub mod Preserving
pub mod Rules
