-- Read Branches first: which block behind an application runs. Then Leads: that what is still to be run leads a moment to another.
-- Then Steps: what running a piece of it comes to. Then internal: the controls that are kept.
pub mod Branches
pub mod Leads
pub mod Steps
pub mod internal
