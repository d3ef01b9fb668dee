-- What the rules ask of the statements of a control, where calls of controls are expanded (this project's own, the
-- limits, too; P4_14 1.0.5, "Packet Processing and Control Flow", "Summary of P4 BNF"; P4_16 1.2, "Statements", "Switch
-- statement").
use Rattle.std.specs.Prelude.{◌≡◌, ◌≤◌, true, List, map, Option, Some}
use Rattle.p414_syntax.specs.Conditions.{StmtPlace, block, statement, behind_if, branches, is_if}
use Rattle.p414_syntax.specs.Tree.{Stmt, no_statements as nothing14, then as then14, apply, apply_branches, if_then as if14, no_else, else_block, else_if, no_branches, branch}
use Rattle.p414_syntax.specs.Nesting.{depth}
use Rattle.p414_syntax.specs.Names.{Name}
use Rattle.p416_syntax.specs.Names.{has_name}
use Rattle.p416_syntax.specs.Scopes.{Handed, Scope, a_table, an_action, sort_of}
use Rattle.lower_laws_controls.specs.Controls.{Plan}
use Rattle.lower_laws_rules.specs.Written.{declared_action}
use Rattle.lower_laws_rules.specs.Spelling.{SpeltName}
use Rattle.lower_laws_block_rules.specs.Widths.{LiteralsWide}

-- each condition has literals of known widths, and is at most 64 deep (C28)
abbrev pub ConditionsStand : Stmt → Type 0
ConditionsStand (then14 a b) = ConditionsStand a × ConditionsStand b
ConditionsStand (apply_branches t bs) = ConditionsStand bs
ConditionsStand (if14 e a other) = LiteralsWide e × (depth e ≤ 64) × ConditionsStand a × ConditionsStand other
ConditionsStand (else_block a) = ConditionsStand a
ConditionsStand (else_if a) = ConditionsStand a
ConditionsStand (branch before l body) = ConditionsStand before × ConditionsStand body
ConditionsStand _ = Unit {0}

-- The grammar's places once calls are expanded: a called control stands as its list of statements where a statement stands.
abbrev pub IsExpandedAt : StmtPlace → Stmt → Type 0
IsExpandedAt block nothing14 = Unit {0}
IsExpandedAt block (then14 a b) = IsExpandedAt block a × IsExpandedAt statement b
IsExpandedAt statement nothing14 = Unit {0}
IsExpandedAt statement (then14 a b) = IsExpandedAt block a × IsExpandedAt statement b
IsExpandedAt statement (apply t) = Unit {0}
IsExpandedAt statement (apply_branches t bs) = IsExpandedAt branches bs
IsExpandedAt statement (if14 e a other) = IsExpandedAt block a × IsExpandedAt behind_if other
IsExpandedAt behind_if no_else = Unit {0}
IsExpandedAt behind_if (else_block a) = IsExpandedAt block a
IsExpandedAt behind_if (else_if a) = (is_if a ≡ true) × IsExpandedAt statement a
IsExpandedAt branches no_branches = Unit {0}
IsExpandedAt branches (branch before l body) = IsExpandedAt branches before × IsExpandedAt block body
IsExpandedAt _ _ = ⊥

-- The scope knows the table under its new name, and the copies of the actions that it lists.
pub record TableSeen (s : Scope) (k : Plan) (t : Name) : Type 0 where
  pub actions : List Name
  pub counters : Option Name
  pub sort : sort_of s (k.table t) ≡ a_table (map declared_action actions) counters
  pub labels : (a text : Name) → k.copy t a ≡ Some text → (has_name actions text ≡ true) × ((plane : Name) × (parameters : List Handed) × (sort_of s text ≡ an_action plane parameters))

-- the new names of a table, and of the copies that it lists, are spelt
pub record TableSpelt (k : Plan) (t : Name) : Type 0 where
  pub table : SpeltName (k.table t)
  pub labels : (a text : Name) → k.copy t a ≡ Some text → SpeltName text
