-- What a program comes to when its actions, field lists and controls are expanded, as a function of its declarations
-- (P4_14 1.0.5, "Actions", "Field Lists", "Packet Processing and Control Flow"). In a program that breaks no rule nothing
-- calls or holds itself, so a chain of calls has each node once at most, and is no longer than there are nodes.
use Rattle.std.specs.Prelude.{ℕ, zero, suc, List, [], ◌∷◌, flat_map, length, map}
use Rattle.std.specs.Option.{option_map_or}
use Rattle.p414_syntax.specs.declared.actions.Action.{Action}
use Rattle.p414_syntax.specs.declared.calculations.FieldList.{FieldList}
use Rattle.p414_syntax.specs.declared.calculations.Item.{Item}
use Rattle.p414_syntax.specs.declared.syntax.Decl.{Decl}
use Rattle.p414_syntax.specs.Tree.{Stmt, no_statements, then, apply, apply_branches, if_then, call, no_else, else_block, else_if, no_branches, branch}
use Rattle.p414_syntax.specs.Views.{ControlTree}
use Rattle.p414_syntax.specs.Names.{Name}
use Rattle.p414_syntax.specs.Arguments.{Invocation, actions, action_of, invocations_of}
use Rattle.p414_syntax.specs.ActionExpansion.{body_with}
use Rattle.p414_syntax.specs.Expansion.{lists, inner_list, own_items}
use Rattle.p414_syntax.specs.ControlExpansion.{controls, control_of, ingress, egress}
use Rattle.p414_sem.specs.Expanded.{Expanded}

-- the primitives that a call comes to, where it is known what the calls of an action do
abbrev pub primitives_of : List Decl → (List Invocation → List Invocation) → Invocation → List Invocation
primitives_of ds inner i =
    option_map_or (λ (a : Action). inner (body_with i.arguments a)) (action_of ds i.callee) (i ∷ [])

-- calls of so many levels
abbrev pub calls_within : List Decl → ℕ → List Invocation → List Invocation
calls_within ds zero calls = []
calls_within ds (suc levels) calls = flat_map (primitives_of ds (calls_within ds levels)) calls

abbrev pub action_comes : List Decl → Action → List Invocation
action_comes ds a = calls_within ds (suc (length (actions ds))) (invocations_of a)

-- the items that an item comes to, where it is known what the items of a list do
abbrev pub items_of : List Decl → (List Item → List Item) → Item → List Item
items_of ds inner i = option_map_or inner (inner_list ds i) (own_items ds i)

abbrev pub items_within : List Decl → ℕ → List Item → List Item
items_within ds zero items = []
items_within ds (suc levels) items = flat_map (items_of ds (items_within ds levels)) items

abbrev pub list_comes : List Decl → FieldList → List Item
list_comes ds l = items_within ds (suc (length (lists ds))) l.items

-- what a statement comes to, where it is known what the body of a control does
abbrev pub statement_by : List Decl → (Stmt → Stmt) → Stmt → Stmt
statement_by ds inner no_statements = no_statements
statement_by ds inner ((then) a b) = then (statement_by ds inner a) (statement_by ds inner b)
statement_by ds inner (apply table) = apply table
statement_by ds inner (apply_branches table a) = apply_branches table (statement_by ds inner a)
statement_by ds inner (if_then c a b) = if_then c (statement_by ds inner a) (statement_by ds inner b)
statement_by ds inner (call name) =
    option_map_or (λ (c : ControlTree). inner c.body) (control_of ds name) no_statements
statement_by ds inner no_else = no_else
statement_by ds inner (else_block a) = else_block (statement_by ds inner a)
statement_by ds inner (else_if a) = else_if (statement_by ds inner a)
statement_by ds inner no_branches = no_branches
statement_by ds inner (branch a l b) = branch (statement_by ds inner a) l (statement_by ds inner b)

abbrev pub statement_within : List Decl → ℕ → Stmt → Stmt
statement_within ds zero s = no_statements
statement_within ds (suc levels) s = statement_by ds (statement_within ds levels) s

abbrev pub control_comes : List Decl → ControlTree → Stmt
control_comes ds c = statement_within ds (suc (length (controls ds))) c.body

abbrev pub pipeline_comes : List Decl → Name → Stmt
pipeline_comes ds name = option_map_or (control_comes ds) (control_of ds name) no_statements

-- what a program comes to whose headers leave in this order
unfoldable pub expansion : List Decl → List ℕ → Expanded
expansion ds order = record {
  actions = map (action_comes ds) (actions ds);
  lists = map (list_comes ds) (lists ds);
  ingress = pipeline_comes ds ingress;
  egress = pipeline_comes ds egress;
  order = order;
}
