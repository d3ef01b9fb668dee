-- Read Fits first: which rows a layout and a store keep. Then Sums: the results of calculations. Then Moments: how a state
-- and a store are seen together, and what a step comes to.
pub mod Fits
pub mod Sums
pub mod Moments
