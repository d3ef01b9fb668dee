-- Read Ready: what is owed of the ready blocks of a program. Then Runs: where a runner stands behind packets.
pub mod Ready
pub mod Runs
