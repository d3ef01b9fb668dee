-- That both rules agree where primitives are apart: ApartStates to RulesAgree, with ApartSample. What each primitive does: Terms, Wide, Hashes,
-- Filled, Fronts, Headers, Stacks, Stores, Meters, Requests, Dropping, Rests. Bodies, and actions that tables run: Sequences, Bodies, Entering.
-- Sample meets what is asked.
pub mod ApartStates
pub mod ApartWrites
pub mod ApartStores
pub mod Kept
pub mod Alike
pub mod RulesAgree
pub mod Behind
pub mod ApartSample
pub mod Lists
pub mod Wide
pub mod Terms
pub mod Calls
pub mod Headers
pub mod Filled
pub mod Hashes
pub mod Fronts
pub mod Stores
pub mod Statements
pub mod Meters
pub mod Requests
pub mod Dropping
pub mod Stacks
pub mod Rests
pub mod Sequences
pub mod Bodies
pub mod Entering
pub mod Sample
