-- Read Behind first: who is in scope behind statements. Meeting says what holds of the expressions of statements, Leaves what is
-- asked of the statements without others in them, and Laws has the laws.
pub mod Behind
pub mod Meeting
pub mod Leaves
pub mod Evaluating
pub mod Laws
