-- Read Trees.antt: which trees a list of nodes stands for. Codes.antt serves proofs alone.
pub mod Trees
pub mod Codes
