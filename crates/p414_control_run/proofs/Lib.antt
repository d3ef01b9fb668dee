mod Naming
mod Front
mod Passing
