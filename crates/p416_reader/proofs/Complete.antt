pub mod Parts
pub mod Expressions
pub mod Trees
pub mod Statements
pub mod Keysets
pub mod States
pub mod Controls
pub mod Declarations
