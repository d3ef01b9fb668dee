-- What the contracts of this crate say. Read State.antt first: what a store means, and what each call does to it.
--   State.antt    all objects of a store, and each call
--   Cells.antt    the cells of one object by its shape
--   Sums.antt     the laws of sums of stores of the same counters
--   Ports.antt    ports and clone sessions, for all crates
--   internal      what only private functions name
pub mod Cells
pub mod Ports
pub mod State
pub mod Sums
pub mod internal
