pub mod Ends
pub mod Files
pub mod Laws
pub mod Loose
pub mod Order
pub mod Phases
pub mod Ways
