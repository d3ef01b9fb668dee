-- Read Orders first: what an order keeps, and which one is least. Then Labelled: what stands before what in a graph whose
-- nodes have labels.
pub mod Orders
pub mod Labelled
pub mod internal
