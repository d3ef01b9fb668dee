-- What an accepted program meets, so that whatever runs leaves a state of the program (this project's own; P4_14 1.0.5,
-- "Actions", "Table Declarations", "Parser Specification").
use Rattle.std.specs.Prelude.{◌≡◌, ℕ, ◌<◌, ◌^◌, List, length, Some}
use Rattle.std.specs.List.{AllByRecursion}
use Rattle.match_core.specs.Fits.{FitsCall}
use Rattle.p414_syntax.specs.declared.lexeme.Literal.{Literal}
use Rattle.p414_syntax.specs.declared.parts.Index.TheVariants.{Next}
use Rattle.p414_syntax.specs.declared.parsers.PStmt.{PStmt}
use Rattle.p414_syntax.specs.declared.parsers.PStmt.TheVariants as pstmt
use Rattle.p414_syntax.specs.declared.parsers.Parser.{Parser}
use Rattle.p414_syntax.specs.declared.tables.Table.{Table}
use Rattle.p414_syntax.specs.declared.syntax.Decl.{Decl}
use Rattle.p414_syntax.specs.declared.syntax.Sort.TheVariants as sort
use Rattle.p414_syntax.specs.Names.{Name, names_in}
use Rattle.p414_syntax.specs.Arguments.{Invocation}
use Rattle.p414_syntax.specs.Fields.{size_in}
use Rattle.p414_syntax.specs.ParserGraph.{instance_number}
use Rattle.p414_syntax.specs.Tables.{listed_in}
use Rattle.p414_sem.specs.Expanded.{Expanded, primitives_at}
use Rattle.p414_sem.specs.Operations.{primitive_of}
use Rattle.p414_sem.specs.Parsing.{state_named}
use Rattle.p414_sem.specs.Controls.{Chosen}
use Rattle.p414_sem.specs.Signatures.{table_sig, table_of}
use Rattle.lower_laws_states.specs.Fits.{OfInstance, FitsPrimitive}

-- what these calls come to fits the program
abbrev pub AllFit : List Decl → Expanded → List Invocation → Type 0
AllFit ds x calls = AllByRecursion (λ i. FitsPrimitive ds (primitive_of ds x i)) calls

-- The number of a table, and that of an action of a table, has 32 bits: no text is long enough for more.
pub record FewTables (ds : List Decl) : Type 0 where
  pub tables : length (names_in sort.Table ds) < 2 ^ 32
  pub actions : (name : Name) (t : Table) → table_of ds name ≡ Some t → length (listed_in t) < 2 ^ 32

-- `next` follows a stack ("Parser Specification")
abbrev pub FitsStatement : List Decl → PStmt → Type 0
FitsStatement ds (pstmt.Extract i) = i.index ≡ Some Next → OfInstance ds (instance_number ds i.name) (λ d. (n : Literal) × (size_in d ≡ Some n))
FitsStatement ds (pstmt.SetMetadata r v) = Unit {0}

-- every state of the parser follows `next` on stacks alone
abbrev pub StatesFit : List Decl → Type 0
StatesFit ds = (name : Name) (p : Parser) → state_named ds name ≡ Some p → AllByRecursion (FitsStatement ds) p.statements

-- a program that comes to this
pub record ProgramFits (ds : List Decl) (x : Expanded) : Type 0 where
  pub few : FewTables ds
  pub actions : (n : ℕ) → AllFit ds x (primitives_at x n)
  pub states : StatesFit ds

-- what a table chose is one of its actions, with as many arguments as the action has parameters, each within its width
abbrev pub FitsChosen : List Decl → Table → Chosen → Type 0
FitsChosen ds t k = FitsCall (table_sig ds t) k.action k.arguments
