-- Nodes are made from the last statement of a control to the first: then all that stands within a statement is there before it.
use Rattle.std.specs.Prelude.{ℕ, ◌+◌, List, [], ◌∷◌, Option, Some, None}
use Rattle.p414_syntax.specs.declared.syntax.Decl.{Decl}
use Rattle.p414_syntax.specs.Tree.{Stmt, no_statements, then, apply, apply_branches, if_then, call, no_else, else_block, else_if, no_branches, branch}
use Rattle.p414_ready_conditions.specs.Rows.{truth_rows}
use Rattle.p414_syntax.specs.ControlExpansion.{control_number}
use Rattle.p414_ready_controls.specs.declared.building.Part.{Part}
use Rattle.p414_ready_controls.specs.declared.nodes.ControlNode.{ControlNode}
use Rattle.p414_ready_controls.specs.declared.nodes.ControlNode.TheVariants as node
use Rattle.p414_ready_controls.specs.Nodes.{kept_label, named_by, with_named, branches_node, table_place}

-- the nodes that were made, the first in front, and each of the statements in which none of the others stands
pub record Built : Type 0 where
  pub nodes : List ControlNode
  pub parts : List Part

abbrev pub nothing_built : Built
nothing_built = record { nodes = []; parts = [] }

abbrev pub part : ℕ → Option (List ℕ) → Part
part size named = record { size = size; named = named }

abbrev pub first_part : List Part → Part
first_part [] = part 0 None
first_part (p ∷ parts) = p

abbrev pub other_parts : List Part → List Part
other_parts [] = []
other_parts (p ∷ parts) = parts

-- a statement without parts, with one, and with two
abbrev pub put_leaf : ControlNode → Option (List ℕ) → Built → Built
put_leaf n named b = record { nodes = n ∷ b.nodes; parts = part 1 named ∷ b.parts }

abbrev pub put_one : ControlNode → Built → Built
put_one n b = record { nodes = n ∷ b.nodes; parts = part ((first_part b.parts).size + 1) None ∷ other_parts b.parts }

abbrev pub put_two : ControlNode → Option (List ℕ) → Built → Built
put_two n named b = record {
  nodes = n ∷ b.nodes;
  parts =
      part ((first_part b.parts).size + (first_part (other_parts b.parts)).size + 1) named
      ∷ other_parts (other_parts b.parts);
}

-- how many nodes the first part has, and the actions that it names
abbrev pub first_size : Built → ℕ
first_size b = (first_part b.parts).size

abbrev pub first_named : Built → Option (List ℕ)
first_named b = (first_part b.parts).named

abbrev pub put_node : List Decl → Stmt → Built → Built
put_node ds no_statements b = put_leaf node.Nothing None b
put_node ds (then x y) b = put_two (node.Both (first_size b)) None b
put_node ds (apply table) b = put_leaf (node.Apply (table_place ds table)) None b
put_node ds (apply_branches table x) b = put_one (branches_node (table_place ds table) (first_named b)) b
put_node ds (if_then c x y) b = put_two (node.If (truth_rows ds c) (first_size b)) None b
put_node ds (call control) b = put_leaf (node.Call (control_number ds control)) None b
put_node ds no_else b = put_leaf node.Nothing None b
put_node ds (else_block x) b = put_one node.Inner b
put_node ds (else_if x) b = put_one node.Inner b
put_node ds no_branches b = put_leaf node.Nothing (Some []) b
put_node ds (branch x l y) b =
    put_two (node.Branch (kept_label ds l) (first_size b)) (with_named (first_named b) (named_by ds l)) b

-- all of these, the last one first
abbrev pub put_all : List Decl → List Stmt → Built → Built
put_all ds [] b = b
put_all ds (s ∷ rest) b = put_node ds s (put_all ds rest b)
