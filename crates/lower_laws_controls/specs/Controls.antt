-- What the lowering of the statements of controls writes, where calls of controls are expanded (this project's own;
-- P4_14 1.0.5, "Packet Processing and Control Flow"; P4_16 1.2, "Conditional statement", "Switch statement", "Block
-- statement", "Match-action unit invocation").
use Rattle.std.specs.Prelude.{Bool, true, false, ◌||◌, if◌then◌else◌, codes, List, Option, Some, None}
use Rattle.p414_syntax.specs.declared.node.Label.{Label}
use Rattle.p414_syntax.specs.declared.node.Label.TheVariants as label
use Rattle.p414_syntax.specs.declared.syntax.Decl.{Decl}
use Rattle.p414_syntax.specs.Tree.{Stmt, then as then14, apply, apply_branches, if_then as if14, else_block, else_if, branch}
use Rattle.p414_syntax.specs.Names.{Name}
use Rattle.p416_syntax.specs.declared.node.CaseLabel.TheVariants as case_label
use Rattle.p416_syntax.specs.Tree.{Exp16, name, member, call, no_arguments, Stmt16, no_statements, then, block as in_braces, expression, if_then, if_else, switch, no_cases, case_of}
use Rattle.lower_laws_base.specs.Context.{Words}
use Rattle.lower_laws_controls.specs.Conditions.{truth_exp}

-- The new names of the tables, and of the copy of an action that a table lists.
pub record Plan : Type 0 where
  pub table : Name → Name
  pub copy : Name → Name → Option Name

-- where statements stand: by themselves, or as branches, of which the one for `hit` is wanted, the one for `miss`, or all as
-- cases for the actions of a table
pub data Way : Type 0 where
  block : Way
  at_hit : Way
  at_miss : Way
  at_actions : (table : Name) → Way

-- the label is `hit`
abbrev pub is_hit : Label → Bool
is_hit label.Hit = true
is_hit _ = false

-- the label is `miss`
abbrev pub is_miss : Label → Bool
is_miss label.Miss = true
is_miss _ = false

-- these branches are for `hit` and `miss`, which stand with no other label
abbrev pub has_outcome : Stmt → Bool
has_outcome (branch before l body) = is_hit l || is_miss l
has_outcome _ = false

-- no statement stands there
abbrev pub is_nothing : Stmt16 → Bool
is_nothing no_statements = true
is_nothing _ = false

-- no case stands there
abbrev pub is_no_cases : Stmt16 → Bool
is_no_cases no_cases = true
is_no_cases _ = false

-- a table is applied ("Match-action unit invocation")
abbrev pub apply_exp : Plan → Name → Exp16
apply_exp k t = call (member (name (k.table t)) (codes "apply")) no_arguments

-- whether it was a hit ("Match-action unit invocation")
abbrev pub hit_exp : Plan → Name → Exp16
hit_exp k t = member (apply_exp k t) (codes "hit")

-- Statements that are a branch stand in braces. No `else` is written where nothing stands there.
abbrev pub if_stmt : Exp16 → Stmt16 → Stmt16 → Stmt16
if_stmt e x y = if is_nothing y then if_then e (in_braces x) else if_else e (in_braces x) y

-- no `switch` is written where no case stands there ("Switch statement")
abbrev pub switch_stmt : Plan → Name → Stmt16 → Stmt16
switch_stmt k t cases = if is_no_cases cases then expression (apply_exp k t) else switch (k.table t) cases

-- a case for this label, where the table lists the action
abbrev pub case_stmt : Option Name → Stmt16 → Stmt16 → Stmt16
case_stmt (Some text) before body = case_of before (case_label.Action text) body
case_stmt None before body = before

-- the case for a label: an action's, or `default`
abbrev pub labelled_case : Plan → Name → Label → Stmt16 → Stmt16 → Stmt16
labelled_case k t (label.Action a) before body = case_stmt (k.copy t a) before body
labelled_case k t label.Default before body = case_of before case_label.Default body
labelled_case k t _ before body = before

-- a branch behind others: as the one that is wanted, or as a case
abbrev pub branch_stmt : Plan → Way → Label → Stmt16 → Stmt16 → Stmt16
branch_stmt k block l before body = no_statements
branch_stmt k at_hit l before body = if is_hit l then body else before
branch_stmt k at_miss l before body = if is_miss l then body else before
branch_stmt k (at_actions t) l before body = labelled_case k t l before body

-- Statements, and behind them a statement or a list of statements: a control that is called stands there as its statements,
-- one by one.
abbrev pub joined : Stmt16 → Stmt16 → Stmt16
joined x no_statements = x
joined x ((then) y z) = (then) (joined x y) z
joined x y = (then) x y

-- what stands for nothing: no statement, or no case
abbrev pub nothing_stmt : Way → Stmt16
nothing_stmt (at_actions t) = no_cases
nothing_stmt _ = no_statements

-- what is written for statements; calls of controls are expanded before, so none stands there
abbrev pub control_stmt : Words → List Decl → Plan → Way → Stmt → Stmt16
control_stmt w ds k way (then14 a b) = joined (control_stmt w ds k block a) (control_stmt w ds k block b)
control_stmt w ds k way (apply t) = expression (apply_exp k t)
control_stmt w ds k way (apply_branches t bs) =
    if has_outcome bs then if_else (hit_exp k t) (in_braces (control_stmt w ds k at_hit bs)) (in_braces (control_stmt w ds k at_miss bs))
    else switch_stmt k t (control_stmt w ds k (at_actions t) bs)
control_stmt w ds k way (if14 e a other) = if_stmt (truth_exp w ds e) (control_stmt w ds k block a) (control_stmt w ds k block other)
control_stmt w ds k way (else_block a) = in_braces (control_stmt w ds k block a)
control_stmt w ds k way (else_if a) = control_stmt w ds k block a
control_stmt w ds k way (branch before l body) =
    branch_stmt k way l (control_stmt w ds k way before) (control_stmt w ds k block body)
control_stmt w ds k way _ = nothing_stmt way
