-- What a program that is read and breaks no rule gives, where the laws of actions ask it. All that is defined here is
-- this project's own; each file names the sections of both standards that it is about. Read Laws first: what holds of
-- the actions of such a program. Shown: the lowering shows the program. Scope: what stands around an action. Placed: in
-- which pipeline it stands. Literals, Counts: numbers, widths and lists.
pub mod Literals
pub mod Counts
pub mod Shown
pub mod Placed
pub mod Scope
pub mod Laws
