-- How deep blocks nest within a statement, where it is known how deep they nest within each control.
use Rattle.std.specs.Prelude.{◌≡◌, ℕ, ◌+◌, ◌<◌, max, min, List, [], ◌∷◌, length, slice_get, slice_index, Some}
use Rattle.std.specs.Option.{option_map_or}
use Rattle.p414_syntax.specs.declared.syntax.Decl.{Decl}
use Rattle.p414_syntax.specs.Tree.{Stmt, no_statements, then, apply, apply_branches, if_then, call, no_else, else_block, else_if, no_branches, branch}
use Rattle.p414_syntax.specs.Views.{ControlTree}
use Rattle.p414_syntax.specs.Names.{Name}
use Rattle.p414_syntax.specs.ControlExpansion.{controls, control_number, StatementExpands}
use Rattle.p414_syntax.specs.Nesting.{nesting}
use Rattle.p414_control_check.specs.declared.depth.Level.{Level}

-- how deep blocks nest within a control by its name; 0 where there is none
abbrev pub depth_of_call : List Decl → List ℕ → Name → ℕ
depth_of_call ds depths name = option_map_or (slice_index depths) (control_number ds name) 0

-- how deep they nest within a statement
abbrev pub depth_within : List Decl → List ℕ → Stmt → ℕ
depth_within ds depths no_statements = 0
depth_within ds depths (then a b) = max (depth_within ds depths a) (depth_within ds depths b)
depth_within ds depths (apply t) = 0
depth_within ds depths (apply_branches t a) = depth_within ds depths a
depth_within ds depths (if_then c a b) = max (1 + depth_within ds depths a) (depth_within ds depths b)
depth_within ds depths (call name) = depth_of_call ds depths name
depth_within ds depths no_else = 0
depth_within ds depths (else_block a) = 1 + depth_within ds depths a
depth_within ds depths (else_if a) = depth_within ds depths a
depth_within ds depths no_branches = 0
depth_within ds depths (branch a l b) = max (depth_within ds depths a) (1 + depth_within ds depths b)

-- how deep they nest within the control with this number, but at most 65
abbrev pub depth_in : List Decl → List ℕ → ControlTree → ℕ
depth_in ds depths c = depth_within ds depths c.body

abbrev pub depth_at : List Decl → List ℕ → ℕ → ℕ
depth_at ds depths n = min 65 (option_map_or (depth_in ds depths) (slice_get (controls ds) n) 0)

-- The control with this number comes to something, and it is known how deep blocks nest there.

abbrev pub SomeStatement : List Decl → Stmt → Type 0
SomeStatement ds s = (to : Stmt) × StatementExpands ds s to

abbrev pub NodeExpands : List Decl → ℕ → Type 0
NodeExpands ds n = (c : ControlTree) → slice_get (controls ds) n ≡ Some c → SomeStatement ds c.body

pub record IsDeep (ds : List Decl) (depths : List ℕ) (n : ℕ) : Type 0 where
  pub there : NodeExpands ds n
  pub deep : (c : ControlTree) → slice_get (controls ds) n ≡ Some c → (to : Stmt) → StatementExpands ds c.body to
      → slice_index depths n ≡ min 65 (nesting to)

-- these are known of all controls
pub record AreDepths (ds : List Decl) (depths : List ℕ) : Type 0 where
  pub each : length depths ≡ length (controls ds)
  pub all : (n : ℕ) → n < length (controls ds) → IsDeep ds depths n

-- Statements that are still to be looked at, each with how deep it stands.

-- how deep a statement is by itself, with what it calls
abbrev pub own_depth : List Decl → List ℕ → Stmt → ℕ
own_depth ds depths (call name) = depth_of_call ds depths name
own_depth ds depths _ = 0

-- one deeper, but at most 65
abbrev pub deeper : ℕ → ℕ
deeper depth = min 65 (1 + depth)

abbrev pub level : Stmt → ℕ → Level
level s depth = record { statement = s; depth = depth }

-- what stands directly within a statement at this depth
abbrev pub levels_within : ℕ → Stmt → List Level
levels_within depth no_statements = []
levels_within depth (then a b) = level a depth ∷ level b depth ∷ []
levels_within depth (apply t) = []
levels_within depth (apply_branches t a) = level a depth ∷ []
levels_within depth (if_then c a b) = level a (deeper depth) ∷ level b depth ∷ []
levels_within depth (call name) = []
levels_within depth no_else = []
levels_within depth (else_block a) = level a (deeper depth) ∷ []
levels_within depth (else_if a) = level a depth ∷ []
levels_within depth no_branches = []
levels_within depth (branch a l b) = level a depth ∷ level b (deeper depth) ∷ []

-- how deep these go
abbrev pub deepest : List Decl → List ℕ → List Level → ℕ
deepest ds depths [] = 0
deepest ds depths (l ∷ ls) = max (l.depth + depth_within ds depths l.statement) (deepest ds depths ls)
