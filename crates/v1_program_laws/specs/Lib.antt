-- Read Reaching first: which parts are those of an expression; SourceLaws and HeaderLaws have the laws of parts and headers. Parsers says
-- which ready parser a parser is, Rules what the expressions of a parser keep, and ParserLaws has the laws of parsers. Giving says what a
-- test gives of an expression where no error comes; ValueLaws, ControlLaws and Finished have the laws of controls; and Laws what runs
-- ready parsers and ready controls asks.
pub mod Reaching
pub mod SourceLaws
pub mod HeaderLaws
pub mod Parsers
pub mod Rules
pub mod ParserLaws
pub mod Giving
pub mod ValueLaws
pub mod ControlLaws
pub mod Finished
pub mod Laws
