-- Read Telling first: what ready tests tell where no error comes, and Sourcing the same of headers, stacks and structs. Calling
-- says what is asked of a block and of a call, Handing what is asked of an action, and Laws has the laws; Declared says how
-- actions are declared, Whole has the law of all calls, and Controls that of the calls in a control. Ruled and Standing say where
-- the rules let no stack tell anything.
pub mod Telling
pub mod Calling
pub mod Sourcing
pub mod Handing
pub mod Laws
pub mod Whole
pub mod Declared
pub mod Controls
pub mod Ruled
pub mod Standing
