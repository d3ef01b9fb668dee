mod Looking
mod Filling
mod Keying
mod Choosing
mod Giving
mod Arriving
