pub mod Edges
mod Cycling
