-- The statements within a statement, each with its scope, and what the rules judge in each (P4_16 1.2, "Statements",
-- "Variable declarations", "Switch statement"). A variable is in scope behind its declaration, up to the end of its block;
-- the block, a branch of an `if` without braces and the statements of a case are scopes of their own.
use Rattle.std.specs.Prelude.{ℕ, ◌+◌, ◌||◌, max, true, if◌then◌else◌, List, [], ◌∷◌, ◌++◌, flat_map}
use Rattle.p416_syntax.specs.declared.parts.Type16.{Type16}
use Rattle.p416_syntax.specs.declared.node.CaseLabel.{CaseLabel}
use Rattle.p416_syntax.specs.declared.node.CaseLabel.TheVariants as case_label
use Rattle.p416_syntax.specs.Tree.{Stmt16, no_statements, then, block, var, var_is, assign, expression, if_then, if_else, switch, no_cases, case_of}
use Rattle.p416_syntax.specs.Names.{Name}
use Rattle.p416_syntax.specs.Kinds.{Kind, boolean, is_packet}
use Rattle.p416_syntax.specs.Scopes.{Scope, known, a_value, inside, kind_of_type}
use Rattle.p416_syntax.specs.Calls.{Place, value, target, statement, unasked}
use Rattle.p416_syntax.specs.Expressions.{kind_of, is_chosen}
use Rattle.p416_syntax.specs.Uses.{Use, a_name, some_action, some_table, a_switch, names_of_scope, of_variable, type_uses, uses}

-- the scope with one variable more
abbrev pub with_variable : Type16 → Name → Scope → Scope
with_variable t called s = inside s (known (a_value (kind_of_type s.names t) true) called ∷ [])

-- the scope behind a statement, and behind a list of statements
abbrev pub behind : Stmt16 → Scope → Scope
behind ((then) before last) s = behind last (behind before s)
behind (var t called) s = with_variable t called s
behind (var_is t called e) s = with_variable t called s
behind _ s = s

-- the names of the variables that a list of statements declares, but for those within its statements
abbrev pub declared_in : Stmt16 → List Name
declared_in ((then) before last) = declared_in before ++ declared_in last
declared_in (var t called) = called ∷ []
declared_in (var_is t called e) = called ∷ []
declared_in _ = []

-- a statement, or the last of a list of cases, and the scope that it stands in
pub record Visit : Type 0 where
  pub scope : Scope
  pub of : Stmt16

abbrev pub visit : Scope → Stmt16 → Visit
visit s x = record { scope = s; of = x }

-- The statements of a list of statements with all within them, in the order of the text. The list without statements and that
-- without cases are none.
abbrev pub visits : Scope → Stmt16 → List Visit
visits s no_statements = []
visits s ((then) before last) = visits s before ++ visits (behind before s) last
visits s (block body) = visit s (block body) ∷ visits s body
visits s (if_then c positive) = visit s (if_then c positive) ∷ visits s positive
visits s (if_else c positive negative) = visit s (if_else c positive negative) ∷ visits s positive ++ visits s negative
visits s (switch table cases) = visit s (switch table cases) ∷ visits s cases
visits s no_cases = []
visits s (case_of before label body) = visits s before ++ visit s (case_of before label body) ∷ visits s body
visits s x = visit s x ∷ []

-- the labels of a list of cases, in order
abbrev pub labels_of : Stmt16 → List CaseLabel
labels_of (case_of before label body) = labels_of before ++ label ∷ []
labels_of _ = []

-- a label names an action, but for `default`
abbrev pub label_uses : Scope → CaseLabel → List Use
label_uses s (case_label.Action text) = a_name s some_action text ∷ []
label_uses s case_label.Default = []

-- what is assigned is of the kind of the target; where that is no value, nothing is asked of it, since the target can't be
-- written
abbrev pub assigned_place : Kind → Place
assigned_place k = if is_chosen k || is_packet k then value k else unasked

-- what is judged in one statement, but for what stands in the statements within it; of a list of cases, in the last one
abbrev pub own_uses : Scope → Stmt16 → List Use
own_uses s (block body) = names_of_scope (declared_in body) ∷ []
own_uses s (var t called) = type_uses s of_variable t
own_uses s (var_is t called e) = type_uses s of_variable t ++ uses s (value (kind_of_type s.names t)) e
own_uses s (assign e f) = uses s target e ++ uses s (assigned_place (kind_of s e)) f
own_uses s (expression e) = uses s statement e
own_uses s (if_then c positive) = uses s (value boolean) c
own_uses s (if_else c positive negative) = uses s (value boolean) c
own_uses s (switch table cases) = a_name s some_table table ∷ a_switch s table (labels_of cases) ∷ []
own_uses s (case_of before label body) = label_uses s label ++ names_of_scope (declared_in body) ∷ []
own_uses s _ = []

abbrev pub visit_uses : Visit → List Use
visit_uses v = own_uses v.scope v.of

abbrev pub statement_uses : Scope → Stmt16 → List Use
statement_uses s x = flat_map visit_uses (visits s x)

-- how deep blocks nest within a statement; `else if` doesn't nest
abbrev pub nesting : Stmt16 → ℕ
nesting ((then) before last) = max (nesting before) (nesting last)
nesting (block body) = 1 + nesting body
nesting (if_then c positive) = nesting positive
nesting (if_else c positive negative) = max (nesting positive) (nesting negative)
nesting (switch table cases) = nesting cases
nesting (case_of before label body) = max (nesting before) (1 + nesting body)
nesting _ = 0
