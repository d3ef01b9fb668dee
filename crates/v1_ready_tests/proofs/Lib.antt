mod Marking
pub mod Keeping
mod Choosing
mod Building
mod Turning
mod Arguing
pub mod Giving
