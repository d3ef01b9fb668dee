-- Read Kept first: what is preserved, by number. Then Begun: how an item's pass begins. Then Leaving: the octets that leave.
pub mod Kept
pub mod Begun
pub mod Leaving
