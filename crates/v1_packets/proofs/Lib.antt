mod Begun
mod Filling
mod Keeping
mod Values
