mod Placing
mod Copying
mod Writing
