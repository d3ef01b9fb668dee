-- Read first Queue and Fabric: what becomes of packets that come in. Then Owned, what the calls of `Passes` need and
-- give; Twins, what it means that two machines correspond; Traces, what can be told of a packet's passes. Numbers has
-- what the clauses of this crate, and of the crates above it, say of bounds on passes and of packets that come in.
-- What stands in `internal` no clause of a public call speaks of.
pub mod Numbers
pub mod Queue
pub mod Fabric
pub mod Owned
pub mod Twins
pub mod Traces
pub mod internal
