mod SpareNames
mod Signing
mod Fitting
mod Marking
mod Turning
pub mod Same
