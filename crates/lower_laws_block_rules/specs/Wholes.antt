-- The six blocks as they are written, and what the rules ask of each (this project's own, the limits, too; P4_16 1.2,
-- "Control blocks", "Packet parsing", "Deparsing"; `v1model.p4`, `V1Switch` and the parameters of its blocks).
use Rattle.std.specs.Prelude.{◌≡◌, ◌≢◌, ℕ, ◌≤◌, Bool, true, false, List, [], ◌∷◌, ◌++◌, map, filter_map, Option, Some, codes}
use Rattle.std.specs.List.{AllByRecursion}
use Rattle.p414_syntax.specs.declared.tables.Table.{Table}
use Rattle.p414_syntax.specs.declared.syntax.Decl.{Decl}
use Rattle.p414_syntax.specs.Tree.{Stmt}
use Rattle.p414_syntax.specs.Lists.{calculated_fields}
use Rattle.p414_syntax.specs.Names.{Name, has_name}
use Rattle.p414_syntax.specs.Nesting.{nesting}
use Rattle.p414_syntax.specs.ParserGraph.{states, HasIdleCycle}
use Rattle.p414_syntax.specs.Tables.{listed_in}
use Rattle.p414_sem.specs.Expanded.{Expanded}
use Rattle.p416_syntax.specs.declared.parsers.Parser16.{Parser16}
use Rattle.p416_syntax.specs.declared.controls.Local.{Local}
use Rattle.p416_syntax.specs.declared.controls.Local.TheVariants as local
use Rattle.p416_syntax.specs.declared.controls.Control16.{Control16}
use Rattle.p416_syntax.specs.Names.{repeats}
use Rattle.p416_syntax.specs.Kinds.{struct, packet_in, packet_out}
use Rattle.p416_syntax.specs.BuiltIn.{standard_name}
use Rattle.p416_syntax.specs.Scopes.{Scope, a_type, called_of, sort_of}
use Rattle.p416_syntax.specs.Declarations.{parser_names, parser_scope, control_names, control_scope, action_uses, tables_in, counters_in}
use Rattle.p416_syntax.specs.Externs.{are_allowed}
use Rattle.v1_core.specs.Frames.{Owner, of_standard}
use Rattle.lower_laws_base.specs.Context.{Lowering, words_of, HasRoot, Sees}
use Rattle.lower_laws_controls.specs.Alike.{StatementFits}
use Rattle.lower_laws_controls.specs.Controls.{Plan, block, control_stmt}
use Rattle.lower_laws_controls.specs.Guards.{guarded_stmt}
use Rattle.lower_laws_controls.specs.Listing.{Each}
use Rattle.lower_laws_controls.specs.Written.{table_text}
use Rattle.lower_laws_sums.specs.Sums.{sums_stmt}
use Rattle.lower_laws_parser.specs.Parsing.{StateFits, Parses, parser_words}
use Rattle.lower_laws_parser.specs.Starts.{Begins}
use Rattle.lower_laws_parser.specs.Deparsing.{Deparses, HeadersStand, emits}
use Rattle.lower_laws_rules.specs.Keeping.{Keeps}
use Rattle.lower_laws_rules.specs.Written.{whole_var}
use Rattle.lower_laws_rules.specs.Whole.{RootNames, parser_params, checksum_params, pipeline_params, deparser_params}
use Rattle.lower_laws_block_rules.specs.Widths.{SlotsWide}
use Rattle.lower_laws_block_rules.specs.Tables.{TableHere}
use Rattle.lower_laws_block_rules.specs.Statements.{ConditionsStand}
use Rattle.lower_laws_block_rules.specs.Sums.{FieldHere}
use Rattle.lower_laws_block_rules.specs.Parsers.{StateHere}

-- a struct of this name is declared at the top
abbrev pub IsStruct : Scope → Name → Type 0
IsStruct s text = sort_of s text ≡ a_type (struct text)

-- the block can write all the parameters that it has
abbrev pub CanWrite : Lowering → Type 0
CanWrite c = (o : Owner) → HasRoot c.layout o → c.can_write o ≡ true

-- ingress and egress

-- A declaration of a control: a variable of a struct; an action that breaks no rule; a table as it is written.
abbrev pub LocalHere : Lowering → List Decl → Scope → Plan → Local → Type 0
LocalHere c ds s k (local.Var v) = (type : Name) × (v ≡ whole_var type v.name) × IsStruct s type
LocalHere c ds s k (local.Action a) = Keeps (action_uses s a) []
LocalHere c ds s k (local.Table u) =
    (t : Table) × (counter : Option Name) × (u ≡ table_text (words_of c) ds (k.copy t.name) (k.table t.name) counter t)
    × TableHere c ds s (k.copy t.name) counter t
LocalHere c ds s k _ = ⊥

-- A table that statements apply stands among the declarations, and has copies of the actions alone that it lists.
pub record TablePlaced (c : Lowering) (ds : List Decl) (s : Scope) (k : Plan) (locals : List Local) (name : Name) : Type 0 where
  pub table : Table
  pub counter : Option Name
  pub before : List Local
  pub after : List Local
  pub stands : locals ≡ before ++ local.Table (table_text (words_of c) ds (k.copy name) (k.table name) counter table) ∷ after
  pub here : TableHere c ds s (k.copy name) counter table
  pub listed : (a text : Name) → k.copy name a ≡ Some text → has_name (listed_in table) a ≡ true

-- Ingress or egress. Names differ (C1, and the new names); no counter belongs to two tables (C23); blocks nest at most
-- 64 deep (C28).
pub record PipelineIs (s : Scope) (c : Lowering) (ds : List Decl) (k : Plan) (P : Name → Type 0) (checks : Bool) (body : Stmt) (h m : Name) (d : Control16) : Type 0 where
  pub roots : RootNames
  pub parameters : d.parameters ≡ pipeline_params h m roots
  pub headers : IsStruct s h
  pub metadata : IsStruct s m
  pub standards : IsStruct s standard_name
  pub names : repeats (map called_of (control_names s.names d)) ≡ false
  pub counters : repeats (filter_map counters_in (tables_in d)) ≡ false
  pub sees : Sees c (control_scope s d) []
  pub wide : SlotsWide c
  pub standard : HasRoot c.layout of_standard
  pub standard_is : c.root_type of_standard ≡ standard_name
  pub writes : CanWrite c
  pub at : are_allowed (2 ∷ 3 ∷ []) s.positions ≡ true
  pub locals : AllByRecursion (LocalHere c ds (control_scope s d) k) d.locals
  pub tables : (t : Name) → P t → TablePlaced c ds (control_scope s d) k d.locals t
  pub fits : StatementFits c.layout ds P block body
  pub stand : ConditionsStand body
  pub nests : nesting body ≤ 63
  pub body_is : d.body ≡ guarded_stmt (words_of c) checks (control_stmt (words_of c) ds k block body)

-- verify and compute, which stand at this place of `main`
pub record SumsBlockIs (s : Scope) (c : Lowering) (ds : List Decl) (x : Expanded) (updates : Bool) (position : ℕ) (h m : Name) (d : Control16) : Type 0 where
  pub roots : RootNames
  pub parameters : d.parameters ≡ checksum_params h m roots
  pub headers : IsStruct s h
  pub metadata : IsStruct s m
  pub names : repeats (map called_of (control_names s.names d)) ≡ false
  pub sees : Sees c (control_scope s d) []
  pub wide : SlotsWide c
  pub writes : CanWrite c
  pub at : are_allowed (position ∷ []) s.positions ≡ true
  pub bare : d.locals ≡ []
  pub fields : Each (FieldHere c.layout ds x updates) (calculated_fields ds)
  pub body_is : d.body ≡ sums_stmt (words_of c) ds x updates

-- the deparser: it emits headers in this order, and declares nothing
pub record DeparserIs (s : Scope) (c : Lowering) (packet : Name) (order : List ℕ) (h : Name) (d : Control16) : Type 0 where
  pub roots : RootNames
  pub parameters : d.parameters ≡ deparser_params h roots
  pub packets : sort_of s (codes "packet_out") ≡ a_type packet_out
  pub headers : IsStruct s h
  pub names : repeats (map called_of (control_names s.names d)) ≡ false
  pub deparses : Deparses c packet (control_scope s d)
  pub at : are_allowed (5 ∷ []) s.positions ≡ true
  pub bare : d.locals ≡ []
  pub stand : HeadersStand c.layout order
  pub body_is : d.body ≡ emits (words_of c) packet order

-- The parser. New names of states differ where names do; states of the program are as their meaning and the rules ask;
-- none follow each other in a circle without an extraction (C9).
pub record ParserIs (s : Scope) (c : Lowering) (ds : List Decl) (packet : Name) (state : Name → Name) (h m : Name) (q : Parser16) : Type 0 where
  pub roots : RootNames
  pub parameters : q.parameters ≡ parser_params h m roots
  pub packets : sort_of s (codes "packet_in") ≡ a_type packet_in
  pub headers : IsStruct s h
  pub metadata : IsStruct s m
  pub standards : IsStruct s standard_name
  pub names : repeats (map called_of (parser_names s.names q)) ≡ false
  pub parses : Parses c ds packet (parser_scope s q)
  pub wide : SlotsWide c
  pub writes : CanWrite c
  pub at : are_allowed (0 ∷ []) s.positions ≡ true
  pub bare : q.vars ≡ []
  pub begins : Begins c ds (parser_words c packet state) q.states
  pub differ : (a b : Name) → a ≢ b → state a ≢ state b
  pub each : AllByRecursion (λ y. StateFits c ds (parser_words c packet state) y × StateHere ds y) (states ds)
  pub idle : HasIdleCycle ds → ⊥
