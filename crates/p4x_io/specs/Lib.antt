-- Read Desk first: what a desk and a sink mean to their callers, and what one call does to them.
-- Then Files: what the calls on whole files and lines come to.
-- Memory has the desk and the sink in memory, with the exact cause of each of their faults, and Host
-- the edge to the system.
-- internal holds what only private functions and proofs name: nobody has to believe it.
pub mod Desk
pub mod Files
pub mod Memory
pub mod Host
pub mod internal
