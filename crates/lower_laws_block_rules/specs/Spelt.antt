-- What is asked of the names of the six blocks for them to be spelt (this project's own; P4_16 1.2, "Lexical
-- constructs", "P4 grammar").
use Rattle.std.specs.Prelude.{List, [], ◌∷◌}
use Rattle.std.specs.List.{AllByRecursion}
use Rattle.p414_syntax.specs.declared.parsers.Parser.{Parser}
use Rattle.p414_syntax.specs.declared.syntax.Decl.{Decl}
use Rattle.p414_syntax.specs.Conditions.{block as a_block}
use Rattle.p414_syntax.specs.Tree.{Stmt}
use Rattle.p414_syntax.specs.Names.{Name}
use Rattle.p414_syntax.specs.ParserGraph.{states}
use Rattle.p416_syntax.specs.declared.controls.Local.{Local}
use Rattle.p416_syntax.specs.declared.controls.Local.TheVariants as local
use Rattle.p416_syntax.specs.declared.controls.Control16.{Control16}
use Rattle.p416_syntax.specs.Scopes.{Scope}
use Rattle.lower_laws_base.specs.Context.{Lowering}
use Rattle.lower_laws_controls.specs.Controls.{Plan}
use Rattle.lower_laws_rules.specs.Whole.{RootNames}
use Rattle.lower_laws_rules.specs.Spelling.{SpeltName, SpeltAction}
use Rattle.lower_laws_block_rules.specs.Tables.{TableNamed}
use Rattle.lower_laws_block_rules.specs.Statements.{IsExpandedAt, TableSpelt}
use Rattle.lower_laws_block_rules.specs.Widths.{SpeltHere}
use Rattle.lower_laws_block_rules.specs.Wholes.{LocalHere}

-- the names of the parameters of blocks, and of their types, are spelt
pub record RootsSpelt (h m : Name) (r : RootNames) : Type 0 where
  pub packet : SpeltName r.packet
  pub headers : SpeltName r.headers
  pub metadata : SpeltName r.metadata
  pub standard : SpeltName r.standard
  pub header_struct : SpeltName h
  pub metadata_struct : SpeltName m

-- the names of a declaration of ingress or egress are spelt
abbrev pub LocalNamed : (c : Lowering) (ds : List Decl) (s : Scope) (k : Plan) (l : Local) → LocalHere c ds s k l → Type 0
LocalNamed c ds s k (local.Var v) here = SpeltName here.0 × SpeltName v.name
LocalNamed c ds s k (local.Action a) here = SpeltAction a
LocalNamed c ds s k (local.Table u) here = TableNamed ds (k.copy here.0.name) (k.table here.0.name) here.1 here.0
LocalNamed c ds s k (local.Instance notes i) here = Unit {0}

-- the names of all declarations of ingress or egress are spelt
abbrev pub AllNamed : (c : Lowering) (ds : List Decl) (s : Scope) (k : Plan) (ls : List Local) → AllByRecursion (LocalHere c ds s k) ls → Type 0
AllNamed c ds s k [] all = Unit {0}
AllNamed c ds s k (l ∷ ls) all = LocalNamed c ds s k l all.0 × AllNamed c ds s k ls all.1

-- the names of ingress or egress are spelt: the grammar of P4_14 gives the form of the expanded statements
pub record PipelineNamed (c : Lowering) (ds : List Decl) (s : Scope) (k : Plan) (P : Name → Type 0) (body : Stmt) (h m : Name) (r : RootNames) (d : Control16) (all : AllByRecursion (LocalHere c ds s k) d.locals) : Type 0 where
  pub name : SpeltName d.name
  pub roots : RootsSpelt h m r
  pub here : SpeltHere c
  pub locals : AllNamed c ds s k d.locals all
  pub tables : (t : Name) → P t → TableSpelt k t
  pub expanded : IsExpandedAt a_block body

-- the names of another control are spelt
pub record ControlNamed (c : Lowering) (h m : Name) (r : RootNames) (d : Control16) : Type 0 where
  pub name : SpeltName d.name
  pub roots : RootsSpelt h m r
  pub here : SpeltHere c

-- the names of the parser, and of its states, are spelt
pub record ParserNamed (c : Lowering) (ds : List Decl) (packet : Name) (state : Name → Name) (h m called : Name) (r : RootNames) : Type 0 where
  pub name : SpeltName called
  pub roots : RootsSpelt h m r
  pub here : SpeltHere c
  pub packet_is : SpeltName packet
  pub each : AllByRecursion (λ (y : Parser). SpeltName (state y.name)) (states ds)
