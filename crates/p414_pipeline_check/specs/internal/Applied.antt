-- Controls and tables as a graph: which tables a pipeline applies is which of them its control reaches.
use Rattle.std.specs.Prelude.{◌≡◌, ℕ, ◌+◌, ◌<◌, ◌↔◌, Bool, true, false, List, [], ◌++◌, length, map, flat_map, slice_index_or, Option, Some, None, option_map}
use Rattle.std.specs.Bool.{MatchBool}
use Rattle.std.specs.List.{cons_option}
use Rattle.digraph.specs.Graphs.{Reaches}
use Rattle.p414_syntax.specs.declared.tables.Table.{Table}
use Rattle.p414_syntax.specs.declared.syntax.Decl.{Decl}
use Rattle.p414_syntax.specs.Tree.{Stmt, apply, apply_branches, call}
use Rattle.p414_syntax.specs.Subtrees.{subtrees}
use Rattle.p414_syntax.specs.Views.{ControlTree}
use Rattle.p414_syntax.specs.Names.{Name}
use Rattle.p414_syntax.specs.ControlExpansion.{controls, control_number}
use Rattle.p414_syntax.specs.Tables.{tables, table_number}
use Rattle.p414_syntax.specs.Pipelines.{IsApplied}

-- the node of the table with this number: tables stand behind the controls
abbrev pub table_node : List Decl → ℕ → ℕ
table_node ds t = length (controls ds) + t

-- the node of the table with this name
abbrev pub named_table : List Decl → Name → Option ℕ
named_table ds name = option_map (table_node ds) (table_number ds name)

-- the node that a statement leads to by itself: a control that it calls, or a table that it applies
abbrev pub leads_to : List Decl → Stmt → List ℕ
leads_to ds (call name) = cons_option (control_number ds name) []
leads_to ds (apply t) = cons_option (named_table ds t) []
leads_to ds (apply_branches t a) = cons_option (named_table ds t) []
leads_to ds _ = []

-- the nodes that a control leads to; a table leads to none
abbrev pub control_row : List Decl → ControlTree → List ℕ
control_row ds c = flat_map (leads_to ds) (subtrees c.body)

abbrev pub table_row : Table → List ℕ
table_row t = []

abbrev pub control_rows : List Decl → List (List ℕ)
control_rows ds = map (control_row ds) (controls ds)

abbrev pub table_rows : List Decl → List (List ℕ)
table_rows ds = map table_row (tables ds)

abbrev pub applied_graph : List Decl → List (List ℕ)
applied_graph ds = control_rows ds ++ table_rows ds

-- a node is reached from this one, if there is one
abbrev pub IsReachedFrom : List (List ℕ) → Option ℕ → ℕ → Type 0
IsReachedFrom g None a = ⊥
IsReachedFrom g (Some from) a = Reaches g from a

pub record AreReachedFrom (g : List (List ℕ)) (from : Option ℕ) (reached : List Bool) : Type 0 where
  pub each : length reached ≡ length g
  pub exact : (a : ℕ) → a < length g → (slice_index_or reached a false ≡ true) ↔ IsReachedFrom g from a

-- these say of each table whether the pipeline applies it
pub record AreApplied (ds : List Decl) (pipeline : Name) (applied : List Bool) : Type 0 where
  pub each : length applied ≡ length (tables ds)
  pub exact : (t : ℕ) → t < length (tables ds) → (slice_index_or applied t false ≡ true) ↔ IsApplied ds pipeline t

-- whether some place is marked in both
abbrev pub IsBoth : Bool → List Bool → List Bool → Type 0
IsBoth both a b =
    MatchBool both
    ((k : ℕ) × (k < length a) × (slice_index_or a k false ≡ true) × (slice_index_or b k false ≡ true))
    ((k : ℕ) → k < length a → slice_index_or a k false ≡ true → slice_index_or b k false ≡ true → ⊥)
