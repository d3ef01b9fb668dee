-- Read Named first: nodes that lead to others by their names, and the graph of them.
pub mod Named
pub mod internal
