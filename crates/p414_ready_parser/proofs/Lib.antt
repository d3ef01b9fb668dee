mod Loops
mod Powers
mod Valuing
mod Doing
mod Selects
mod Parsing
