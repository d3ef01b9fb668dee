mod Accepted
mod Giving
mod Held
mod Loops
mod Same
mod Summing
mod Turns
