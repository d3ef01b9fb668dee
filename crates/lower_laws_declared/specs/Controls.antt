-- What a control declares behind its parameters and variables: copies of actions, and tables (this project's own; P4_14
-- 1.0.5, "Actions", "Table Declarations", "Deparsing"; P4_16 1.2, "Control blocks", "Actions", "Tables", "Control-plane
-- API annotations").
use Rattle.std.specs.Prelude.{◌≡◌, ℕ, Bool, List, [], ◌∷◌, ◌++◌, map, flat_map, length, codes, option_map, unwrap_or, filter, filter_map, Option, not, if◌then◌else◌, Some}
use Rattle.p414_syntax.specs.declared.syntax.Decl.{Decl}
use Rattle.p414_syntax.specs.declared.syntax.Sort.TheVariants as sort
use Rattle.p414_syntax.specs.declared.tables.Table.{Table}
use Rattle.p414_syntax.specs.Names.{Name, names_in}
use Rattle.p414_sem.specs.Signatures.{table_of, table_sig, first_name, counts_entries_of}
use Rattle.p416_syntax.specs.declared.program.Decl16.TheVariants as decl16
use Rattle.p416_syntax.specs.Declarations.{tables_in, control_scope}
use Rattle.p416_syntax.specs.Breaks.{scope_of}
use Rattle.p414_syntax.specs.Tables.{tables, table_number}
use Rattle.lower_laws_names.specs.NewNames.{new_name}
use Rattle.p414_sem.specs.Expanded.{Expanded}
use Rattle.p416_syntax.specs.declared.controls.Local.{Local}
use Rattle.p416_syntax.specs.declared.controls.Local.TheVariants as local
use Rattle.p416_syntax.specs.declared.controls.Action16.{Action16}
use Rattle.p416_syntax.specs.declared.controls.Table16.{Table16}
use Rattle.p416_syntax.specs.Scopes.{Known, handed, plane_name}
use Rattle.p416_syntax.specs.Tables.{objects_of, table_plane}
use Rattle.v1_core.specs.Signatures.{handed_width}
use Rattle.lower_laws_controls.specs.Controls.{Plan}
use Rattle.lower_laws_controls.specs.Listing.{widths_of_action}
use Rattle.v1_core.specs.Signatures.{objects_in, placed, placed_sig}
use Rattle.lower_laws_names.specs.Reaches.{Outer, declared, copy, outer_name, AreIn}
use Rattle.lower_laws_names.specs.Objects.{top_decls, block_names}
use Rattle.lower_laws_names.specs.Copies.{listings, outer_in, copies, outers}
use Rattle.lower_laws_names.specs.Declared.{decl_name}
use Rattle.p416_syntax.specs.declared.controls.Control16.{Control16}
use Rattle.lower_laws_base.specs.Context.{StateLayout}
use Rattle.lower_laws_parser.specs.Deparsing.{emits}
use Rattle.lower_laws_program.specs.Program.{Parts, syntax_of, blocks_of, packet_called, deparser_parameters}
use Rattle.lower_laws_declared.specs.Parser.{parser_base}

-- a copy of an action: under this new name, known to the control plane by the name of the action, with parameters of its widths
pub record CopyIs (ds : List Decl) (o : Outer) (n : Name) (a : Action16) : Type 0 where
  pub called : a.name ≡ outer_name ds o
  pub plane : plane_name a.notes a.name ≡ n
  pub widths : (names : List Known) → map handed_width (map (handed names) a.parameters) ≡ widths_of_action ds n

-- what is written for a table, under its new name
pub record TableIs (ds : List Decl) (as_table : Name → Table16) (n : Name) (t : Table16) : Type 0 where
  pub is : t ≡ as_table n
  pub called : t.name ≡ outer_name ds (declared sort.Table n)
  pub plane : table_plane t ≡ n

-- a declaration of a control is what is written for this part of the program: an action, a copy of one, or a table
abbrev pub LocalIs : List Decl → (Name → Table16) → Outer → Local → Type 0
LocalIs ds as_table (declared sort.Action n) (local.Action a) = CopyIs ds (declared sort.Action n) n a
LocalIs ds as_table (declared sort.Table n) (local.Table t) = TableIs ds as_table n t
LocalIs ds as_table (copy k n) (local.Action a) = CopyIs ds (copy k n) n a
LocalIs ds as_table _ _ = ⊥

-- the declarations of a control are what is written for these parts of the program, one by one
abbrev pub LocalsAre : List Decl → (Name → Table16) → List Outer → List Local → Type 0
LocalsAre ds as_table [] [] = Unit {0}
LocalsAre ds as_table (x ∷ things) (l ∷ locals) = LocalIs ds as_table x l × LocalsAre ds as_table things locals
LocalsAre ds as_table _ _ = ⊥

-- the copies and tables of a pipeline, in egress or in ingress
abbrev pub pipeline_things : List Decl → (ℕ → Bool) → Bool → List Name → List Outer
pipeline_things ds egress e tables = outers e (copies ds egress) ++ map (declared sort.Table) tables

-- the number of a table in the order of declaration
abbrev pub table_place : List Decl → Name → ℕ
table_place ds name = unwrap_or (table_number ds name) (length (tables ds))

-- the new names of tables, and those of the copies of actions that a table lists
abbrev pub plan_of : List Decl → (ℕ → Bool) → Plan
plan_of ds egress = record {
  table = new_name ds sort.Table;
  copy = λ table action. option_map (outer_name ds) (outer_in (listings ds egress) (table_place ds table) action);
}

-- the new name of the direct counter of a table, if it has one
abbrev pub counter_of : List Decl → Name → Option Name
counter_of ds table = option_map (new_name ds sort.Object) (first_name (filter_map (counts_entries_of table) ds))

-- a control declares these behind its variables
pub record DeclaresLocals (ds : List Decl) (as_table : Name → Table16) (things : List Outer) (locals : List Local) : Type 0 where
  pub each : LocalsAre ds as_table things locals
  pub inside : AreIn ds things

-- The parts of a program that is put together: types and objects as they are written, and blocks under their fixed names that
-- declare no object.
pub record PartsAre (ds : List Decl) (x : Expanded) (p : Parts) : Type 0 where
  pub types : p.types ≡ top_decls ds x
  pub names : map decl_name (blocks_of p) ≡ block_names
  pub none : flat_map objects_of (blocks_of p) ≡ []
  pub empty : flat_map objects_in (blocks_of p) ≡ []

-- the deparser emits the headers in their order
abbrev pub deparser_written : StateLayout → Expanded → Control16
deparser_written g x = record {
  name = codes "D";
  parameters = deparser_parameters;
  locals = [];
  body = emits (parser_base g) packet_called x.order;
}

-- Which tables stand in which control, each written as `as_table` tells, under its name for the control plane.
pub record TablesAre (ds : List Decl) (in_ingress : Name → Bool) (as_table : Name → Table16) (p : Parts) : Type 0 where
  pub planes : (n : Name) → table_plane (as_table n) ≡ n
  pub verify : tables_in p.verify ≡ []
  pub ingress : tables_in p.ingress ≡ map as_table (filter in_ingress (names_in sort.Table ds))
  pub egress : tables_in p.egress ≡ map as_table (filter (λ (n : Name). not (in_ingress n)) (names_in sort.Table ds))
  pub compute : tables_in p.compute ≡ []
  pub deparser : tables_in p.deparser ≡ []

-- the control in which a table stands
abbrev pub stands_in : (Name → Bool) → Parts → Name → Control16
stands_in in_ingress p name = if in_ingress name then p.ingress else p.egress

-- each table has one signature in both programs
abbrev pub SignaturesAre : List Decl → (Name → Bool) → (Name → Table16) → Parts → Type 0
SignaturesAre ds in_ingress as_table p =
    (name : Name) (t : Table) → table_of ds name ≡ Some t →
    placed_sig (syntax_of p) (placed (control_scope (scope_of (syntax_of p) (decl16.Control (stands_in in_ingress p name))) (stands_in in_ingress p name)) (stands_in in_ingress p name).locals (as_table name)) ≡ table_sig ds t
