-- What a control comes to when the controls that it calls are expanded (P4_14 1.0.5, "Packet Processing and Control
-- Flow"): in the place of each call stands the body of the control that is called, and no block of its own.
use Rattle.std.specs.Prelude.{◌≡◌, ℕ, List, [], ◌∷◌, flat_map, filter_map, map, slice_get, Option, Some, None, MatchOption, option_and_then, codes}
use Rattle.std.specs.Option.{option_map_or}
use Rattle.p414_syntax.specs.declared.node.Label.{Label}
use Rattle.p414_syntax.specs.declared.syntax.Decl.{Decl}
use Rattle.p414_syntax.specs.declared.syntax.Decl.TheVariants as decl
use Rattle.p414_syntax.specs.Tree.{Expr, Stmt, no_statements, then, apply, apply_branches, if_then, call, no_else, else_block, else_if, no_branches, branch}
use Rattle.p414_syntax.specs.Subtrees.{subtrees}
use Rattle.p414_syntax.specs.Views.{ControlTree}
use Rattle.p414_syntax.specs.Names.{Name, find_name}

-- the controls of a program, and their names, in order

abbrev pub control_in : Decl → Option ControlTree
control_in (decl.Control x) = Some x
control_in _ = None

abbrev pub controls : List Decl → List ControlTree
controls ds = filter_map control_in ds

abbrev pub control_name : ControlTree → Name
control_name c = c.name

-- the number of the control with this name, and the control itself
abbrev pub control_number : List Decl → Name → Option ℕ
control_number ds name = find_name (map control_name (controls ds)) name

abbrev pub control_of : List Decl → Name → Option ControlTree
control_of ds name = option_and_then (slice_get (controls ds)) (control_number ds name)

-- What a statement comes to: a call to what the body of its control comes to, any other to itself with its parts
-- expanded.
pub data StatementExpands (ds : List Decl) : Stmt → Stmt → Type 0 where
  NoStatements : StatementExpands ds no_statements no_statements
  Then : (a b to_a to_b : Stmt) → StatementExpands ds a to_a → StatementExpands ds b to_b
      → StatementExpands ds (then a b) (then to_a to_b)
  Apply : (table : Name) → StatementExpands ds (apply table) (apply table)
  ApplyBranches : (table : Name) (a to_a : Stmt) → StatementExpands ds a to_a
      → StatementExpands ds (apply_branches table a) (apply_branches table to_a)
  If : (c : Expr) (a b to_a to_b : Stmt) → StatementExpands ds a to_a → StatementExpands ds b to_b
      → StatementExpands ds (if_then c a b) (if_then c to_a to_b)
  Call : (name : Name) (control : ControlTree) (body : Stmt) → control_of ds name ≡ Some control
      → StatementExpands ds control.body body → StatementExpands ds (call name) body
  NoElse : StatementExpands ds no_else no_else
  ElseBlock : (a to_a : Stmt) → StatementExpands ds a to_a → StatementExpands ds (else_block a) (else_block to_a)
  ElseIf : (a to_a : Stmt) → StatementExpands ds a to_a → StatementExpands ds (else_if a) (else_if to_a)
  NoBranches : StatementExpands ds no_branches no_branches
  Branch : (a b to_a to_b : Stmt) (l : Label) → StatementExpands ds a to_a → StatementExpands ds b to_b
      → StatementExpands ds (branch a l b) (branch to_a l to_b)

-- the control with this number comes to this body
pub record ControlExpands (ds : List Decl) (number : ℕ) (body : Stmt) : Type 0 where
  pub control : ControlTree
  pub numbered : slice_get (controls ds) number ≡ Some control
  pub expands : StatementExpands ds control.body body

-- the pipelines: the control with this name, or nothing where there is none

abbrev pub ingress : Name
ingress = codes "ingress"

abbrev pub egress : Name
egress = codes "egress"

abbrev pub PipelineExpands : List Decl → Name → Stmt → Type 0
PipelineExpands ds pipeline body =
    MatchOption (control_of ds pipeline) (body ≡ no_statements)
    (λ (control : ControlTree). StatementExpands ds control.body body)

-- controls as a graph: the controls that a control calls, by their numbers, in order

abbrev pub own_call : Stmt → List Name
own_call (call name) = name ∷ []
own_call _ = []

abbrev pub calls_in : List Decl → ControlTree → List ℕ
calls_in ds c = filter_map (control_number ds) (flat_map own_call (subtrees c.body))

abbrev pub controls_called_by : List Decl → ℕ → List ℕ
controls_called_by ds n = option_map_or (calls_in ds) (slice_get (controls ds) n) []
