mod Loops
mod Finding
mod Powers
