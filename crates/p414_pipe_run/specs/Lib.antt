-- Read Prepared first: a program that is made ready. Then Held: what is held of a packet. Then Packed: the machine of the passes,
-- and that it is the program's. Then Ran: what a whole run answers.
pub mod Prepared
pub mod Held
pub mod Packed
pub mod Ran
pub mod internal
