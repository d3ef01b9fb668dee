-- Read Graphs first: what a graph is, and a walk in it. Then Components, and Expansions.
pub mod Graphs
pub mod Components
pub mod Expansions
pub mod internal
