mod Ending
mod Holding
mod Passing
mod Turns
