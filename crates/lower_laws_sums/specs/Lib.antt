-- Of calculated fields, and of all controls of a program together. All that is defined here is this project's own; each
-- file names the sections of both standards that it is about. Read Sums first, what is written for calculated fields;
-- Alike is what passes ask of all controls; Whole what is asked of the blocks that verify and update; Laws what is
-- proved.
pub mod Sums
pub mod Alike
pub mod Whole
pub mod Laws
