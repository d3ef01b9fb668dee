mod Leaves
mod Values
mod Externs
mod Calls
mod Statements
mod Tables
mod Blocks
mod Parsing
mod Passes
pub mod Shifting
mod Machines
pub mod Objects
pub mod Shards
pub mod Numbers
