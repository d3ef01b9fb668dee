-- Read Left first: which statements are still to be visited.
pub mod Left
