-- What is still to be run of a control (P4_14 1.0.5, "Packet Processing and Control Flow"), the first in front: nodes of statements, of
-- which more may follow that are none of theirs, and what was taken where they are branches.
use Rattle.std.specs.Prelude.{◌≡◌, ℕ, Bool, if◌then◌else◌, List, [], ◌∷◌, ◌++◌, drop, slice_index_or, Option, Some, None}
use Rattle.p414_syntax.specs.declared.node.Label.{Label}
use Rattle.p414_syntax.specs.declared.syntax.Decl.{Decl}
use Rattle.p414_syntax.specs.Tree.{Expr, Stmt}
use Rattle.p414_syntax.specs.Names.{Name}
use Rattle.p414_syntax.specs.ControlExpansion.{StatementExpands}
use Rattle.p414_sem.specs.Conditions.{holds}
use Rattle.p414_sem.specs.Effects.{Moment}
use Rattle.p414_sem.specs.Controls.{Setting, Applied, applied, run}
use Rattle.p414_ready_conditions.specs.declared.rows.ConditionRow.{ConditionRow}
use Rattle.p414_ready_conditions.specs.Rows.{truth_rows}
use Rattle.p414_ready_controls.specs.declared.nodes.ControlNode.{ControlNode}
use Rattle.p414_ready_controls.specs.declared.nodes.ControlNode.TheVariants as node
use Rattle.p414_ready_controls.specs.Nodes.{kept_label, nodes_of, table_place}
use Rattle.p414_control_run.specs.declared.taken.Taken.{Taken}
use Rattle.p414_control_run.specs.Branches.{IsTaken, takes_label}

pub record Left : Type 0 where
  pub taken : Option Taken
  pub nodes : List ControlNode

-- labels are taken as these say
pub record TakesAs (ds : List Decl) (taken : Option Taken) (takes : Label → Bool) : Type 0 where
  pub so : (l : Label) → takes_label taken (kept_label ds l) ≡ takes l

-- Run one after another, they lead a moment to this one.
pub data Leads (c : Setting) : List Left → Moment → Moment → Type 0 where
  Ends : (m : Moment) → Leads c [] m m
  Goes : (taken : Option Taken) (nodes more : List ControlNode) (rest : List Left) (takes : Label → Bool) (s to : Stmt) (m due : Moment)
      → TakesAs c.decls taken takes → nodes ≡ nodes_of c.decls s ++ more → StatementExpands c.decls s to
      → Leads c rest (run c takes to m) due → Leads c (record { taken = taken; nodes = nodes } ∷ rest) m due

-- what is behind a node, where it is the first one that is still to be run

abbrev pub left_of : Option Taken → List ControlNode → Left
left_of taken nodes = record { taken = taken; nodes = nodes }

-- the table with a number is applied, and then this holds of the application
pub record TableLeads (c : Setting) (number : ℕ) (Behind : Applied → Type 0) (m : Moment) : Type 0 where
  pub name : Name
  pub place : number ≡ table_place c.decls name
  pub leads : Behind (applied c name m)

-- the condition of these rows is asked
pub record ConditionLeads (c : Setting) (rows : List ConditionRow) (Behind : Bool → Type 0) (m : Moment) : Type 0 where
  pub condition : Expr
  pub are : rows ≡ truth_rows c.decls condition
  pub leads : Behind (holds c.decls m.state condition)

-- the nodes of a control
abbrev pub body_at : List (List ControlNode) → Option ℕ → List ControlNode
body_at bodies None = []
body_at bodies (Some number) = slice_index_or bodies number []

abbrev pub FrontLeads : Setting → List (List ControlNode) → Option Taken → ControlNode → List ControlNode → List Left → Moment → Moment → Type 0
FrontLeads c bodies t node.Nothing rest left m due = Leads c left m due
FrontLeads c bodies t (node.Both n) rest left m due = Leads c (left_of t rest ∷ left_of t (drop n rest) ∷ left) m due
FrontLeads c bodies t (node.Apply k) rest left m due = TableLeads c k (λ (a : Applied). Leads c left a.moment due) m
FrontLeads c bodies t (node.ApplyBranches k named) rest left m due =
    TableLeads c k
    (λ (a : Applied).
    (taken : Taken) → IsTaken c.decls named a taken → Leads c (left_of (Some taken) rest ∷ left) a.moment due) m
FrontLeads c bodies t node.NoBranches rest left m due = Unit {0}
FrontLeads c bodies t (node.If rows n) rest left m due =
    ConditionLeads c rows (λ (b : Bool). Leads c (left_of t (if b then rest else drop n rest) ∷ left) m due) m
FrontLeads c bodies t (node.Call control) rest left m due = Leads c (left_of t (body_at bodies control) ∷ left) m due
FrontLeads c bodies t node.Inner rest left m due = Leads c (left_of t rest ∷ left) m due
FrontLeads c bodies t (node.Branch l n) rest left m due =
    Leads c (left_of t (if takes_label t l then drop n rest else rest) ∷ left) m due
