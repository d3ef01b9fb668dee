-- What is kept of the statements of controls (P4_14 1.0.5, "Packet Processing and Control Flow"): each by itself, from the outside
-- in, in the order of the text, with numbers in place of names. A call stays a call.
use Rattle.std.specs.Prelude.{ℕ, List, [], ◌++◌, length, map, Option, Some, None, option_to_list, unwrap_or}
use Rattle.match_core.specs.declared.signatures.TableSig.{TableSig}
use Rattle.p414_syntax.specs.declared.node.Label.{Label}
use Rattle.p414_syntax.specs.declared.node.Label.TheVariants as label
use Rattle.p414_syntax.specs.declared.syntax.Decl.{Decl}
use Rattle.p414_syntax.specs.Subtrees.{subtrees}
use Rattle.p414_syntax.specs.Tree.{Stmt, no_statements, then, apply, apply_branches, if_then, call, no_else, else_block, else_if, no_branches, branch}
use Rattle.p414_syntax.specs.Views.{ControlTree}
use Rattle.p414_syntax.specs.Names.{Name, find_name}
use Rattle.p414_syntax.specs.Arguments.{action_number}
use Rattle.p414_syntax.specs.ControlExpansion.{controls, control_number}
use Rattle.p414_sem.specs.Signatures.{signature14}
use Rattle.p414_ready_conditions.specs.Rows.{truth_rows}
use Rattle.p414_ready_controls.specs.declared.nodes.ReadyLabel.{ReadyLabel}
use Rattle.p414_ready_controls.specs.declared.nodes.ReadyLabel.TheVariants as ready
use Rattle.p414_ready_controls.specs.declared.nodes.ControlNode.{ControlNode}
use Rattle.p414_ready_controls.specs.declared.nodes.ControlNode.TheVariants as node

-- the number of a table in the signature; that behind the last of a name that none has

abbrev pub table_name : TableSig → Name
table_name t = t.name

abbrev pub place_among : List Name → Name → ℕ
place_among names name = unwrap_or (find_name names name) (length names)

abbrev pub table_place : List Decl → Name → ℕ
table_place ds name = place_among (map table_name (signature14 ds).tables) name

abbrev pub kept_label : List Decl → Label → ReadyLabel
kept_label ds label.Hit = ready.Hit
kept_label ds label.Miss = ready.Miss
kept_label ds label.Default = ready.Default
kept_label ds (label.Action name) = ready.Action (action_number ds name)

-- the actions that branches name, in order; none where a statement is no list of branches

abbrev pub named_by : List Decl → Label → List ℕ
named_by ds (label.Action name) = option_to_list (action_number ds name)
named_by ds label.Hit = []
named_by ds label.Miss = []
named_by ds label.Default = []

abbrev pub with_named : Option (List ℕ) → List ℕ → Option (List ℕ)
with_named None more = None
with_named (Some named) more = Some (named ++ more)

abbrev pub named_in : List Decl → Stmt → Option (List ℕ)
named_in ds no_branches = Some []
named_in ds (branch before l body) = with_named (named_in ds before) (named_by ds l)
named_in ds _ = None

abbrev pub branches_node : ℕ → Option (List ℕ) → ControlNode
branches_node table None = node.NoBranches
branches_node table (Some named) = node.ApplyBranches table named

-- how many nodes a statement has
abbrev pub size : Stmt → ℕ
size s = length (subtrees s)

-- a statement by itself
abbrev pub node_of : List Decl → Stmt → ControlNode
node_of ds no_statements = node.Nothing
node_of ds (then a b) = node.Both (size a)
node_of ds (apply table) = node.Apply (table_place ds table)
node_of ds (apply_branches table a) = branches_node (table_place ds table) (named_in ds a)
node_of ds (if_then c a b) = node.If (truth_rows ds c) (size a)
node_of ds (call control) = node.Call (control_number ds control)
node_of ds no_else = node.Nothing
node_of ds (else_block a) = node.Inner
node_of ds (else_if a) = node.Inner
node_of ds no_branches = node.Nothing
node_of ds (branch a l b) = node.Branch (kept_label ds l) (size a)

-- with all that stands within it
abbrev pub nodes_of : List Decl → Stmt → List ControlNode
nodes_of ds s = map (node_of ds) (subtrees s)

-- the bodies of all controls, in the order of declaration

abbrev pub body_nodes : List Decl → ControlTree → List ControlNode
body_nodes ds c = nodes_of ds c.body

abbrev pub control_nodes : List Decl → List (List ControlNode)
control_nodes ds = map (body_nodes ds) (controls ds)
