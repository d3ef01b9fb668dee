-- Read Captures first: what the octets of a capture are read as, the rules K1 to K5, and how packets come in on ports.
--   Reader     what a reader holds that is fed in pieces, and what its calls answer
--   Sent       what is written
--   Ports      what a list of ports is, and the rules P1 and P2
--   Numbers    the words of a capture in either order of octets
--   internal   what only private functions and proofs name
pub mod Captures
pub mod Reader
pub mod Sent
pub mod Ports
pub mod Numbers
pub mod internal
