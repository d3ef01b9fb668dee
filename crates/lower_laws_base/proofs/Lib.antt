-- Expressions and what they give: Wrap, Means, Gives, Sources. States beside each other: States, Shapes, Blank. Statements: Writes, Copies,
-- Headers, Running, Begins, Locals, Fields. Sample meets what is asked.
pub mod Wrap
pub mod Locals
pub mod Means
pub mod Gives
pub mod Shapes
pub mod States
pub mod Sources
pub mod Writes
pub mod Copies
pub mod Headers
pub mod Running
pub mod Fields
pub mod Sample
pub mod Begins
pub mod Blank
