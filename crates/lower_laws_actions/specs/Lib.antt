-- Of the bodies of actions: what is written for primitives, and that it does what they do. All that is defined here is
-- this project's own; each file names the sections of both standards that it is about. Apart: when no primitive reads
-- what an earlier one changes. Runs: what primitives do one after another. Same: moments that are the same in a part.
-- Mirror: what is written for each primitive. Fits: which primitives these are. Actions: what is asked of an action as
-- it is written. Laws: what is proved of them.
pub mod Apart
pub mod Runs
pub mod Same
pub mod Mirror
pub mod Fits
pub mod Actions
pub mod Laws
