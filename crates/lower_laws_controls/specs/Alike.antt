-- What the statements of a control ask of its tables, and which statements are those of the program (this project's
-- own; P4_14 1.0.5, "Packet Processing and Control Flow", "Table Declarations"; P4_16 1.2, "Match-action unit
-- invocation", "Switch statement").
use Rattle.std.specs.Prelude.{◌≡◌, Bool, true, false, ◌||◌, List, [], Option, Some, None}
use Rattle.std.specs.Str.{bytes_eq}
use Rattle.p414_syntax.specs.declared.node.Label.{Label}
use Rattle.p414_syntax.specs.declared.node.Label.TheVariants as label
use Rattle.p414_syntax.specs.declared.syntax.Decl.{Decl}
use Rattle.p414_syntax.specs.Tree.{Stmt, no_statements as nothing14, then as then14, apply, apply_branches, if_then as if14, call as call14, no_else, else_block, else_if, no_branches, branch}
use Rattle.p414_syntax.specs.Names.{Name}
use Rattle.p414_sem.specs.Effects.{Moment as Moment14}
use Rattle.p414_sem.specs.Controls.{Setting as Setting14, Applied as Applied14, applied as applied14}
use Rattle.p416_syntax.specs.Kinds.{table}
use Rattle.p416_syntax.specs.Scopes.{Scope, sort_of}
use Rattle.p416_syntax.specs.Expressions.{sort_kind}
use Rattle.v1_core.specs.Frames.{Moment}
use Rattle.v1_core.specs.Surroundings.{Applied}
use Rattle.lower_laws_base.specs.Context.{StateLayout, Lowering, Aside, Stands}
use Rattle.lower_laws_controls.specs.Conditions.{IsCondition}
use Rattle.lower_laws_controls.specs.Controls.{Plan, Way, block, at_hit, at_miss, at_actions, has_outcome}

-- moments of a control's statements, which have no variables of their own
abbrev pub Level : StateLayout → Aside → Moment14 → Moment → Type 0
Level g aside m n = Stands g [] [] aside m n

-- the action that ran in P4_14, and its copy that ran in P4_16
abbrev pub ActionsAgree : (Name → Option Name) → Option Name → Option Name → Type 0
ActionsAgree copy None None = Unit {0}
ActionsAgree copy (Some a) (Some q) = copy a ≡ Some q
ActionsAgree copy _ _ = ⊥

-- what both tables come to: a hit or a miss, the action that ran, and the moment
pub record AppliedAgrees (g : StateLayout) (aside : Aside) (copy : Name → Option Name) (x : Applied14) (y : Applied) : Type 0 where
  pub hit : y.hit ≡ x.hit
  pub action : ActionsAgree copy x.action y.action
  pub moment : Level g aside x.moment y.moment

-- All that statements ask of a table: it is one, the copies that it lists are of one action each, and applying it
-- agrees.
pub record TableStands (c : Lowering) (s : Scope) (d : Setting14) (k : Plan) (t : Name) : Type 0 where
  pub sort : sort_kind (sort_of s (k.table t)) ≡ table
  pub copies : (a b text : Name) → k.copy t a ≡ Some text → k.copy t b ≡ Some text → a ≡ b
  pub applies : (aside : Aside) (m : Moment14) (n : Moment) → Level c.layout aside m n → AppliedAgrees c.layout aside (k.copy t) (applied14 d t m) (c.world.apply (k.table t) n)

-- branches

-- the same action, or `default` twice, as labels of branches
abbrev pub is_same_label : Label → Label → Bool
is_same_label (label.Action a) (label.Action b) = bytes_eq a b
is_same_label label.Default label.Default = true
is_same_label _ _ = false

-- one of these branches has this label
abbrev pub has_same : Label → Stmt → Bool
has_same l (branch before k body) = is_same_label l k || has_same l before
has_same l _ = false

-- a label for `hit` or `miss` (P4_14, "Packet Processing and Control Flow")
abbrev pub IsOutcome : Label → Type 0
IsOutcome label.Hit = Unit {0}
IsOutcome label.Miss = Unit {0}
IsOutcome _ = ⊥

-- a label for an action, or `default` (P4_14, "Packet Processing and Control Flow")
abbrev pub IsActionLabel : Label → Type 0
IsActionLabel label.Default = Unit {0}
IsActionLabel (label.Action a) = Unit {0}
IsActionLabel _ = ⊥

-- a label may stand at this place, behind these branches
abbrev pub LabelFits : Way → Stmt → Label → Type 0
LabelFits block before l = ⊥
LabelFits at_hit before l = IsOutcome l
LabelFits at_miss before l = IsOutcome l
LabelFits (at_actions t) before l = IsActionLabel l × (has_same l before ≡ false)

-- the place is one of statements by themselves
abbrev pub IsBlock : Way → Type 0
IsBlock block = Unit {0}
IsBlock _ = ⊥

-- the place is one of branches
abbrev pub IsNotBlock : Way → Type 0
IsNotBlock block = ⊥
IsNotBlock _ = Unit {0}

-- branches for `hit` and `miss`, or for actions
abbrev pub BranchesFit : (Way → Type 0) → Name → Bool → Type 0
BranchesFit fits t true = fits at_hit × fits at_miss
BranchesFit fits t false = fits (at_actions t)

-- Statements of the program, whose tables are of this sort.
abbrev pub StatementFits : StateLayout → List Decl → (Name → Type 0) → Way → Stmt → Type 0
StatementFits g ds P way nothing14 = IsBlock way
StatementFits g ds P way (then14 a b) = IsBlock way × StatementFits g ds P block a × StatementFits g ds P block b
StatementFits g ds P way (apply t) = IsBlock way × P t
StatementFits g ds P way (apply_branches t bs) = IsBlock way × P t × BranchesFit (λ x. StatementFits g ds P x bs) t (has_outcome bs)
StatementFits g ds P way (if14 e a other) = IsBlock way × IsCondition g ds e × StatementFits g ds P block a × StatementFits g ds P block other
StatementFits g ds P way (call14 text) = ⊥
StatementFits g ds P way no_else = IsBlock way
StatementFits g ds P way (else_block a) = IsBlock way × StatementFits g ds P block a
StatementFits g ds P way (else_if a) = IsBlock way × StatementFits g ds P block a
StatementFits g ds P way no_branches = IsNotBlock way
StatementFits g ds P way (branch before l body) = LabelFits way before l × StatementFits g ds P way before × StatementFits g ds P block body
