-- Statements of which something holds for each expression at its place, as that it keeps the rules (P4_16 1.2, "Statements").
use Rattle.std.specs.Prelude.{◌≡◌, Bool, false, List, [], ◌∷◌}
use Rattle.std.specs.List.{list_any}
use Rattle.p416_syntax.specs.Tree.{Exp16, Stmt16, then, block, var_is, assign, expression, if_then, if_else, switch, case_of}
use Rattle.p416_syntax.specs.Kinds.{boolean}
use Rattle.p416_syntax.specs.Scopes.{Scope, kind_of_type}
use Rattle.p416_syntax.specs.Calls.{Place, value, target, statement}
use Rattle.p416_syntax.specs.Expressions.{kind_of}
use Rattle.p416_syntax.specs.Uses.{Use, uses}
use Rattle.p416_syntax.specs.Statements.{behind, assigned_place}

-- none of these tests finds anything in what the rules judge
abbrev pub FindNothing : List (Use → Bool) → List Use → Type 0
FindNothing [] judged = Unit {0}
FindNothing (test ∷ tests) judged = (list_any test judged ≡ false) × FindNothing tests judged

-- so of an expression at its place, with all within it
abbrev pub Judged : List (Use → Bool) → Scope → Place → Exp16 → Type 0
Judged tests s p e = FindNothing tests (uses s p e)

-- a statement with all within it
abbrev pub StatementMeets : (Scope → Place → Exp16 → Type 0) → Scope → Stmt16 → Type 0
StatementMeets U s ((then) before last) = StatementMeets U s before × StatementMeets U (behind before s) last
StatementMeets U s (block body) = StatementMeets U s body
StatementMeets U s (var_is t called e) = U s (value (kind_of_type s.names t)) e
StatementMeets U s (assign e f) = U s target e × U s (assigned_place (kind_of s e)) f
StatementMeets U s (expression e) = U s statement e
StatementMeets U s (if_then c positive) = U s (value boolean) c × StatementMeets U s positive
StatementMeets U s (if_else c positive negative) =
    U s (value boolean) c × StatementMeets U s positive × StatementMeets U s negative
StatementMeets U s (switch table cases) = StatementMeets U s cases
StatementMeets U s (case_of before label body) = StatementMeets U s before × StatementMeets U s body
StatementMeets U s _ = Unit {0}
