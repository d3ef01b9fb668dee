-- What a program comes to when its actions, field lists and controls are expanded (P4_14 1.0.5, "Actions", "Field
-- Lists", "Packet Processing and Control Flow", "Deparsing"). Expansions are relations, and an accepted program has one
-- of each kind: the meaning is told of the program together with them.
use Rattle.std.specs.Prelude.{◌≡◌, ℕ, ◌<◌, List, [], length, slice_index_or, Some}
use Rattle.p414_syntax.specs.declared.calculations.Item.{Item}
use Rattle.p414_syntax.specs.declared.syntax.Decl.{Decl}
use Rattle.p414_syntax.specs.Tree.{Stmt}
use Rattle.p414_syntax.specs.Arguments.{Invocation, actions}
use Rattle.p414_syntax.specs.ActionExpansion.{ActionExpands}
use Rattle.p414_syntax.specs.Expansion.{lists, items_at, Expands}
use Rattle.p414_syntax.specs.ControlExpansion.{PipelineExpands, ingress as ingress_name, egress as egress_name}
use Rattle.p414_syntax.specs.ParserGraph.{Order}

pub record Expanded : Type 0 where
  -- the primitives of each action, in the order of declaration
  pub actions : List (List Invocation)
  -- the items of each field list, in the order of declaration
  pub lists : List (List Item)
  -- the statements of the two pipelines
  pub ingress : Stmt
  pub egress : Stmt
  -- the instances in the order in which they leave, by their numbers
  pub order : List ℕ

abbrev pub primitives_at : Expanded → ℕ → List Invocation
primitives_at x n = slice_index_or x.actions n []

abbrev pub items_in_list : Expanded → ℕ → List Item
items_in_list x n = slice_index_or x.lists n []

-- this is what the program comes to
pub record IsExpanded (ds : List Decl) (x : Expanded) : Type 0 where
  pub all_actions : length x.actions ≡ length (actions ds)
  pub each_action : (n : ℕ) → n < length (actions ds) → ActionExpands ds n (primitives_at x n)
  pub all_lists : length x.lists ≡ length (lists ds)
  pub each_list : (n : ℕ) (items : List Item) → items_at ds n ≡ Some items → Expands ds items (items_in_list x n)
  pub to_ingress : PipelineExpands ds ingress_name x.ingress
  pub to_egress : PipelineExpands ds egress_name x.egress
  pub to_order : Order ds x.order
