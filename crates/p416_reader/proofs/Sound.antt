pub mod Expressions
pub mod Keysets
pub mod Parts
pub mod Statements
pub mod States
pub mod Controls
pub mod Declarations
pub mod Grammar
