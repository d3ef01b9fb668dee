-- Changed: what the sets of changed parts hold. Apart: what rows of primitives read and change. Bodies: what is written for rows.
-- Reading: what calculations read, and which bodies need copies. Fitting, Called: laws of rows.
pub mod Changed
pub mod Apart
pub mod Bodies
pub mod Reading
pub mod Fitting
pub mod Called
