-- What the rules ask of the blocks of a program that is put together, beside what its meaning asks of them (this
-- project's own, the limits, too; P4_14 1.0.5, "Parser Specification", "Packet Processing and Control Flow", "Checksums
-- and Hash-value Generators"; P4_16 1.2, "Packet parsing", "Control blocks").
use Rattle.std.specs.Prelude.{◌≡◌, ℕ, ◌<◌, ◌≤◌, Bool, false, List, ◌∷◌, [], length, map, filter_map}
use Rattle.std.specs.List.{AllByRecursion}
use Rattle.p414_syntax.specs.declared.parsers.Parser.{Parser}
use Rattle.p414_syntax.specs.declared.syntax.Decl.{Decl}
use Rattle.p414_syntax.specs.ParserGraph.{states, state_name, HasIdleCycle}
use Rattle.p414_syntax.specs.Tree.{Stmt}
use Rattle.p414_syntax.specs.Lists.{calculated_fields}
use Rattle.p414_syntax.specs.Nesting.{nesting}
use Rattle.p414_sem.specs.Expanded.{Expanded}
use Rattle.p416_syntax.specs.declared.parsers.Parser16.{Parser16}
use Rattle.p416_syntax.specs.declared.controls.Control16.{Control16}
use Rattle.p416_syntax.specs.Scopes.{Scope, called_of}
use Rattle.p416_syntax.specs.Names.{Name, repeats}
use Rattle.p416_syntax.specs.Declarations.{known_state, control_names, control_scope, tables_in, counters_in}
use Rattle.v1_core.specs.Frames.{of_headers, of_metadata, of_standard}
use Rattle.v1_core.specs.Surroundings.{Setting}
use Rattle.agreement_of_meanings.specs.Shown.{fields_of, field_at}
use Rattle.lower_laws_base.specs.Context.{StateLayout, shown_on, Lowering, words_of}
use Rattle.lower_laws_controls.specs.Alike.{StatementFits}
use Rattle.lower_laws_controls.specs.Controls.{Plan, block, control_stmt}
use Rattle.lower_laws_controls.specs.Guards.{guarded_stmt}
use Rattle.lower_laws_controls.specs.Listing.{Each}
use Rattle.lower_laws_sums.specs.Sums.{sums_stmt}
use Rattle.lower_laws_parser.specs.Parsing.{StateFits, parser_words}
use Rattle.lower_laws_program.specs.Program.{root_name, packet_called}
use Rattle.lower_laws_program.specs.TypesFit.{TypeWords}
use Rattle.lower_laws_program.specs.Scopes.{IsClear}
use Rattle.lower_laws_program.specs.Fits.{parser_lowering, ParserFits}
use Rattle.lower_laws_rules.specs.Whole.{RootNames}
use Rattle.lower_laws_block_rules.specs.Widths.{IsWidth}
use Rattle.lower_laws_block_rules.specs.Statements.{ConditionsStand}
use Rattle.lower_laws_block_rules.specs.Sums.{FieldHere}
use Rattle.lower_laws_block_rules.specs.Parsers.{StateHere}
use Rattle.lower_laws_block_rules.specs.Wholes.{LocalHere, TablePlaced}

-- the fields of all instances have 1 to 128 bits (C3)
abbrev pub LayoutWide : StateLayout → Type 0
LayoutWide g = (i k : ℕ) → i < length g.names.instances → k < length (fields_of (shown_on g i)) → IsWidth (field_at (fields_of (shown_on g i)) k).width

-- the names of the parameters of the blocks
abbrev pub fixed_roots : RootNames
fixed_roots = record { packet = packet_called; headers = root_name of_headers; metadata = root_name of_metadata; standard = root_name of_standard }

-- the names of the parser's parameters, as a list
abbrev pub parser_fixed : List Name
parser_fixed = packet_called ∷ root_name of_headers ∷ root_name of_metadata ∷ root_name of_standard ∷ []

-- No state bears the name of a parameter; states have names that differ (C1), fit (C2, C4, C6, C14, C25) and are as the rules ask
-- (C3, C5), and no circle of them extracts nothing (C9).
pub record ParserRules (g : StateLayout) (ds : List Decl) (t : TypeWords) (c16 : Setting) (q : Parser16) (fits : ParserFits g ds t c16 q) : Type 0 where
  pub free : AllByRecursion (IsClear (map known_state q.states)) parser_fixed
  pub once : repeats (map state_name (states ds)) ≡ false
  pub each : AllByRecursion (λ (y : Parser). StateFits (parser_lowering g t c16 q) ds (parser_words (parser_lowering g t c16 q) packet_called fits.state) y × StateHere ds y) (states ds)
  pub idle : HasIdleCycle ds → ⊥

-- Ingress or egress, whose names and statements are these: the names that it declares differ, no direct counter belongs to two
-- tables, and what it declares and applies is as the rules ask.
pub record PipelineRules (c : Lowering) (ds : List Decl) (top : Scope) (k : Plan) (P : Name → Type 0) (checks : Bool) (body : Stmt) (d : Control16) : Type 0 where
  pub names : repeats (map called_of (control_names top.names d)) ≡ false
  pub counters : repeats (filter_map counters_in (tables_in d)) ≡ false
  pub locals : AllByRecursion (LocalHere c ds (control_scope top d) k) d.locals
  pub tables : (t : Name) → P t → TablePlaced c ds (control_scope top d) k d.locals t
  pub fits : StatementFits c.layout ds P block body
  pub stand : ConditionsStand body
  pub nests : nesting body ≤ 63
  pub body_is : d.body ≡ guarded_stmt (words_of c) checks (control_stmt (words_of c) ds k block body)

-- The block that verifies or updates: it declares nothing, and its calculated fields are as the rules ask.
pub record SumsRules (c : Lowering) (ds : List Decl) (x : Expanded) (updates : Bool) (d : Control16) : Type 0 where
  pub bare : d.locals ≡ []
  pub fields : Each (FieldHere c.layout ds x updates) (calculated_fields ds)
  pub body_is : d.body ≡ sums_stmt (words_of c) ds x updates
