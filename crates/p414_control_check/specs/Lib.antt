-- A graph with further edges.
pub mod Edges
-- What the contracts of private functions cite.
pub mod internal
