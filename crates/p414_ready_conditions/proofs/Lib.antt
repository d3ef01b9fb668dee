pub mod Modulo
pub mod Needed
pub mod Working
pub mod Meaning
