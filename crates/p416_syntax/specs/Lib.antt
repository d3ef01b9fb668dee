-- Keywords, Marks and Lines: the text of each reserved word, each mark, each annotation's name and each include line.
-- They stand here alone.
-- Spelt: which tokens a text can have.
-- Read Tree first: the trees of expressions and statements, and what a list of nodes stands for. Then, as wanted: Heads: a
-- tree's outermost constructor with its parts. Subtrees: all that stands within a statement or an expression.
-- Properties: what a table declares.
-- Tokens: what the grammar sees of a text. Written: the tokens of a syntax, by the words in Tokens, Operators and Members.
-- Conditions: what the grammar asks besides. Parentheses: that they are no part of a syntax. Spells: which tokens spell a
-- syntax. Spelt: which syntaxes a text can have. Code serves proofs alone.
-- Read Breaks first: which rule a program breaks. Then, rule by rule, each a test of one thing that is judged:
--   Unknown       T1: names
--   Sizes         T2: widths and sizes
--   Types         T3: types
--   Literals      T4: literals and their widths
--   Writes        T5: what is written
--   Arguments     T6: how many arguments there are
--   ParserStates  T7: parser states as a graph
--   Applications  T8: tables that are applied, and actions that call themselves
--   Tables        T9: tables, direct counters and control-plane names
--   Externs       T10: where extern calls stand
--   Main          T11: the blocks of `main`
--   Totals        T12: how many fields, octets and cells there are, and how deep blocks and expressions nest
-- What is judged is a list, in Declarations, Statements and Uses. They stand on Expressions (what an expression is), Calls
-- (places, and what calls want), BuiltIn, Scopes (what names mean), Kinds and Names.
pub mod Keywords
pub mod Marks
pub mod Lines
pub mod SpeltLexemes
pub mod Tree
pub mod Heads
pub mod Subtrees
pub mod Code
pub mod Properties
pub mod Members
pub mod Tokens
pub mod Operators
pub mod Written
pub mod Conditions
pub mod Parentheses
pub mod Spells
pub mod Spelt
pub mod internal
pub mod Names
pub mod Kinds
pub mod Scopes
pub mod BuiltIn
pub mod Calls
pub mod Expressions
pub mod Uses
pub mod Statements
pub mod Declarations
pub mod Unknown
pub mod Sizes
pub mod Types
pub mod Literals
pub mod Writes
pub mod Arguments
pub mod ParserStates
pub mod Applications
pub mod Tables
pub mod Externs
pub mod Main
pub mod Totals
pub mod Exact
pub mod Breaks
