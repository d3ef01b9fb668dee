-- Same: both definitions of the ready parser of a program are one. Blocks has the law; Making puts it to the program that is made, and
-- Running to its run.
pub mod Same
pub mod Blocks
pub mod Making
pub mod Running
