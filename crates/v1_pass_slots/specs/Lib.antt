-- Read Found first: what holds of the slots that were found. Starts says where values begin, and Lists which field lists the
-- slots of the metadata are in.
pub mod Starts
pub mod Lists
pub mod Found
pub mod internal
