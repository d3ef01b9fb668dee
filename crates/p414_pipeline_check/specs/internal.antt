pub mod Applied
pub mod Requests
