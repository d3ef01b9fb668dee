mod Acting
mod Emptying
mod Loops
mod Places
mod Stepping
