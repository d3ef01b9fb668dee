-- Of the rules T1 to T12, and of what is spelt, for programs of the forms that the lowering writes. All that is defined
-- here is this project's own; each file names the sections of the standard that it is about. Read Keeping first: when
-- an expression, arguments and statements break no rule. Standing says what expressions ask of a scope; Written what is
-- written for declarations, and Declared what these ask for; Whole what a program asks of its parts; Spelling when all
-- of it is spelt; Acting what the rules ask of actions, beside what their meaning asks. Laws: what is proved.
pub mod Keeping
pub mod Standing
pub mod Written
pub mod Declared
pub mod Whole
pub mod Spelling
pub mod Acting
pub mod Laws
