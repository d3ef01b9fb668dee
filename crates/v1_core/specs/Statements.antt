-- What statements do, and how many begin to run (P4_16 1.2, "Statements", "Assignment statement", "Conditional statement",
-- "Empty statement", "Block statement", "Variable declarations", "Switch statement"; the count is this project's own). Each statement that
-- begins to run counts one, but for blocks, empty statements and variables without an initial value. Once an error stopped
-- the parser none begins.
use Rattle.std.specs.Prelude.{Bool, true, false, ◌||◌, if◌then◌else◌, Option, Some}
use Rattle.std.specs.Str.{bytes_eq}
use Rattle.p416_syntax.specs.declared.parts.Type16.{Type16}
use Rattle.p416_syntax.specs.declared.node.CaseLabel.{CaseLabel}
use Rattle.p416_syntax.specs.declared.node.CaseLabel.TheVariants as label
use Rattle.p416_syntax.specs.Tree.{Exp16, Stmt16, no_statements, then, block, empty, var, var_is, assign, expression, if_then, if_else, switch, no_cases, case_of}
use Rattle.p416_syntax.specs.Names.{Name}
use Rattle.p416_syntax.specs.Kinds.{boolean}
use Rattle.p416_syntax.specs.Scopes.{Scope, kind_of_type}
use Rattle.p416_syntax.specs.Calls.{value}
use Rattle.p416_syntax.specs.Expressions.{kind_of}
use Rattle.p416_syntax.specs.Statements.{behind, assigned_place}
use Rattle.v1_core.specs.Values.{Value, is_true, fitted, zero_value}
use Rattle.v1_core.specs.Frames.{Moment, ticked, is_stopped, going_on, put_at, declared, closed}
use Rattle.v1_core.specs.Surroundings.{World}
use Rattle.v1_core.specs.Expressions.{Valued, value_of, reference_of}
use Rattle.v1_core.specs.Calls.{call_statement}

-- variables

-- a variable without an initial value starts at 0
abbrev pub starts : Scope → Type16 → Value
starts s t = zero_value s.layouts (kind_of_type s.names t)

abbrev pub initialized : Scope → Type16 → Name → Valued → Moment
initialized s t called x = going_on (declared called (fitted (starts s t) x.value)) x.moment

-- assignments: what the target means is found first, then the value is evaluated, and then it is written
abbrev pub assigned : World → Scope → Exp16 → Exp16 → Moment → Moment
assigned w s target e m =
    let r = reference_of w.around s target m in
    let x = value_of w s (assigned_place (kind_of s target)) e r.moment in
    going_on (put_at r.reference x.value) x.moment

abbrev pub condition : World → Scope → Exp16 → Moment → Valued
condition w s c m = value_of w s (value boolean) c m

-- cases of `switch`

-- a label names the action that ran; `NoAction` has no label
abbrev pub names_action : Option Name → CaseLabel → Bool
names_action (Some text) (label.Action a) = bytes_eq a text
names_action _ _ = false

abbrev pub is_default : CaseLabel → Bool
is_default label.Default = true
is_default (label.Action a) = false

-- one of these cases has a label that passes
abbrev pub has_label : (CaseLabel → Bool) → Stmt16 → Bool
has_label passes (case_of before l body) = has_label passes before || passes l
has_label passes _ = false

-- the case of the action that ran is taken, and where there is none the one of `default`
abbrev pub chosen_label : Option Name → Stmt16 → CaseLabel → Bool
chosen_label action cases l =
    if has_label (names_action action) cases then names_action action l else is_default l

-- no case is taken: outside of `switch` none stands
abbrev pub no_label : CaseLabel → Bool
no_label l = false

-- What a statement leaves. `taken` tells which of the cases is taken, where it is a list of cases.
abbrev pub run : World → Scope → (CaseLabel → Bool) → Stmt16 → Moment → Moment
run w s taken no_statements m = m
run w s taken ((then) before last) m = run w (behind before s) taken last (run w s taken before m)
run w s taken (block body) m = closed m (run w s no_label body m)
run w s taken empty m = m
run w s taken (var t called) m = going_on (declared called (starts s t)) m
run w s taken (var_is t called e) m =
    if is_stopped m then m else initialized s t called (value_of w s (value (kind_of_type s.names t)) e (ticked m))
run w s taken (assign target e) m = if is_stopped m then m else assigned w s target e (ticked m)
run w s taken (expression e) m = if is_stopped m then m else call_statement w s e (ticked m)
run w s taken (if_then c positive) m =
    if is_stopped m then m
    else
    let x = condition w s c (ticked m) in
    if is_true x.value then closed m (run w s no_label positive x.moment) else x.moment
run w s taken (if_else c positive negative) m =
    if is_stopped m then m
    else
    let x = condition w s c (ticked m) in
    closed m
    (if is_true x.value then run w s no_label positive x.moment else run w s no_label negative x.moment)
run w s taken (switch table cases) m =
    if is_stopped m then m
    else let a = w.apply table (ticked m) in run w s (chosen_label a.action cases) cases a.moment
run w s taken no_cases m = m
run w s taken (case_of before l body) m =
    if has_label taken before then run w s taken before m
    else if taken l then closed m (run w s no_label body m) else m
