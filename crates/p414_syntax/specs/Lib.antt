-- Keywords and Marks: the text of each word and each mark that the grammar quotes. They stand here alone.
-- Spelt: which tokens a text can have.
-- Read Tree.antt first: the trees of expressions and statements, and what a list of nodes stands for. Then, as wanted:
-- Views.antt: how a control and a header type are seen. Heads.antt: a tree's outermost constructor with its parts.
-- Subtrees.antt: all that stands within a statement or an expression. Sorted.antt: the declarations sort by sort.
-- Attributes.antt: what header types, metadata instances, tables, counters, meters and registers declare.
-- References.antt: what a reference refers to.
-- Written.antt: the tokens of a syntax, by the words in Words.antt and Operators.antt. Conditions.antt: what the
-- grammar asks besides. Spells.antt: both in one. Spelt.antt: which syntaxes a text can have. Code.antt and internal/
-- serve proofs alone. The texts of words and marks stand in p414_syntax.
-- Read Breaks first: which rule a program breaks. Then, rule by rule:
--   Twice        C1: names that are declared twice
--   Unknown      C2: names that aren't there, on Uses: which names a program uses, and what is wanted there
--   Widths       C3 and C5: widths
--   Stacks       C4: header stacks and indices
--   Selects      C6: `latest` and selects
--   Totals       C7: how many fields and octets there are
--   Lists        C8: field lists and calculated fields, on Expansion: what a list has in it when expanded
--   ParserGraph  C9 and C10: parser states as a graph, and Order: the order in which headers leave
--   Tables       C11, C12 and C24: keys and default actions
--   Calls        C13: the arguments of calls, on Expressions, which also has C26: the minus sign
--   Targets      C14: what is extracted and what is written
--   Actions      C15: actions that call themselves or are too long, on ActionExpansion: what an action comes to
--   Controls     C16: the same of controls, on ControlExpansion: what a control comes to
--   Pipelines    C17 and C22: what the pipelines apply and reach
--   Preserved    C18 and C19: field lists that are preserved
--   Payloads     C20: where `payload` stands
--   CalculatedFields  C21: the conditions of calculated fields
--   Cells        C23: counters, meters and registers
--   Unsupported  C25: what is left out
--   Parameters   C27: where a parameter stands
--   Nesting      C28: how deep blocks and expressions nest
-- They stand on Walks (walks and cycles in a graph), Names (sorts, and what a name stands for), Distinct (names, each
-- once), Fields (instances, fields and their widths), Primitives (primitive actions, standard metadata) and Arguments
-- (what the arguments of calls stand for, and what is wanted of each).
pub mod Keywords
pub mod Marks
pub mod SpeltLexemes
pub mod Tree
pub mod Views
pub mod Heads
pub mod Subtrees
pub mod Sorted
pub mod Attributes
pub mod References
pub mod Code
pub mod Words
pub mod Operators
pub mod Written
pub mod Conditions
pub mod Spells
pub mod Spelt
pub mod internal
pub mod Walks
pub mod Names
pub mod Primitives
pub mod Fields
pub mod Uses
pub mod Twice
pub mod Unknown
pub mod Widths
pub mod Stacks
pub mod Selects
pub mod Totals
pub mod Expansion
pub mod Lists
pub mod ParserGraph
pub mod Distinct
pub mod Arguments
pub mod ActionExpansion
pub mod Tables
pub mod Expressions
pub mod Actions
pub mod Calls
pub mod Targets
pub mod ControlExpansion
pub mod Controls
pub mod Pipelines
pub mod Preserved
pub mod Payloads
pub mod CalculatedFields
pub mod Cells
pub mod Unsupported
pub mod Parameters
pub mod Nesting
pub mod Exact
pub mod Breaks
