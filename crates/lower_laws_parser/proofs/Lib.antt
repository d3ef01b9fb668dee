-- Bits and values: Bits, Octets, Values, Keys, Sets. Statements and states: Extracts, States, Starts. The walk: Walk, Off, Whole, ParserBlock. The
-- deparser: Yields, Deparse.
pub mod Bits
pub mod Kept
pub mod Extracts
pub mod Yields
pub mod Values
pub mod Sets
pub mod Keys
pub mod States
pub mod Walk
pub mod Starts
pub mod Whole
pub mod Named
pub mod Off
pub mod ParserBlock
pub mod Octets
pub mod Deparse
