-- Read Listings first: what is known of tables and actions that were gone through. The definitions of the rules serve for the rest.
pub mod Listings
pub mod Pairs
pub mod internal
