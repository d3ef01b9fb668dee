-- Read Orders first: the order in which headers leave, by the graph of the parser states. Then Programs.
pub mod Orders
pub mod Programs
