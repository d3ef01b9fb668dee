-- The statements that are still to be visited, each in its scope, by what is left to be done.
use Rattle.std.specs.Prelude.{ℕ, ◌+◌, ◌-◌, Bool, true, false, List, [], ◌∷◌, ◌++◌, length, drop}
use Rattle.p416_syntax.specs.declared.program.Decl16.{Decl16}
use Rattle.p416_syntax.specs.Tree.{Stmt16, no_statements, then, block, var, var_is, if_then, if_else, switch, no_cases, case_of}
use Rattle.p416_syntax.specs.Scopes.{Scope}
use Rattle.p416_syntax.specs.Declarations.{top_names}
use Rattle.p416_syntax.specs.Statements.{Visit, visit, visits, behind, with_variable}
use Rattle.p416_scopes.specs.declared.scope.Scope.{Scope as CodeScope}
use Rattle.p416_scopes.specs.Seen.{seen_scope}
use Rattle.p416_visits.specs.declared.visits.Work.{Work}
use Rattle.p416_visits.specs.declared.visits.Work.TheVariants as work

-- how many names are in scope where so many are declared inside those at the top
abbrev pub height : List Decl16 → ℕ → ℕ
height ds len = len + length (top_names ds)

-- the scope with so many names, those that were declared first
abbrev pub shortened : ℕ → Scope → Scope
shortened n s = record s { names = drop (length s.names - n) s.names }

-- what is visited, given the declarations at the top and the scope at the beginning
abbrev pub left : List Decl16 → Scope → List Work → List Visit
left ds s [] = []
left ds s (work.Visit x ∷ more) = visits s x ++ left ds (behind x s) more
left ds s (work.VisitCase x body ∷ more) = visit s x ∷ visits s body ++ left ds (behind body s) more
left ds s (work.Declare of called ∷ more) = left ds (with_variable of.now called.now s) more
left ds s (work.Shorten len ∷ more) = left ds (shortened (height ds len) s) more

-- the scope behind all that is left
abbrev pub behind_all : List Decl16 → Scope → List Work → Scope
behind_all ds s [] = s
behind_all ds s (work.Visit x ∷ more) = behind_all ds (behind x s) more
behind_all ds s (work.VisitCase x body ∷ more) = behind_all ds (behind body s) more
behind_all ds s (work.Declare of called ∷ more) = behind_all ds (with_variable of.now called.now s) more
behind_all ds s (work.Shorten len ∷ more) = behind_all ds (shortened (height ds len) s) more

-- both, given the scope of code at the beginning
abbrev pub left_in : CodeScope → List Work → List Visit
left_in scope more = left scope.top.now (seen_scope scope) more

abbrev pub scope_behind : CodeScope → List Work → Scope
scope_behind scope more = behind_all scope.top.now (seen_scope scope) more

-- whether a statement is visited itself, before all within it: lists aren't, and the last of a list of cases is visited behind
-- those before it
abbrev pub is_visited : Stmt16 → Bool
is_visited no_statements = false
is_visited ((then) before last) = false
is_visited no_cases = false
is_visited (case_of before label body) = false
is_visited _ = true

-- a statement, where it is visited itself
abbrev pub if_visited : Bool → Scope → Stmt16 → List Visit
if_visited true s x = visit s x ∷ []
if_visited false s x = []

-- how many steps a statement takes with all within it, where each thing that is taken off what is left is a step
abbrev pub steps_of : Stmt16 → ℕ
steps_of ((then) before last) = 1 + steps_of before + steps_of last
steps_of (block body) = 2 + steps_of body
steps_of (var t called) = 2
steps_of (var_is t called e) = 2
steps_of (if_then c positive) = 2 + steps_of positive
steps_of (if_else c positive negative) = 3 + steps_of positive + steps_of negative
steps_of (switch table cases) = 2 + steps_of cases
steps_of (case_of before label body) = 4 + steps_of before + steps_of body
steps_of _ = 1

-- how many steps are left
abbrev pub steps : List Work → ℕ
steps [] = 0
steps (work.Visit x ∷ more) = steps_of x + steps more
steps (work.VisitCase x body ∷ more) = 1 + steps_of body + steps more
steps (work.Declare of called ∷ more) = 1 + steps more
steps (work.Shorten len ∷ more) = 1 + steps more
