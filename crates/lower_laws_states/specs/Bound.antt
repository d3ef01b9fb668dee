-- Parsing comes to its end within so many states, so that no bound stops it (P4_14 1.0.5, "Parser Specification"; the
-- bound is this project's own).
use Rattle.std.specs.Prelude.{◌≡◌, ℕ, zero, suc, ◌≤◌, List, None, codes}
use Rattle.p414_syntax.specs.declared.syntax.Decl.{Decl}
use Rattle.p414_syntax.specs.Names.{Name}
use Rattle.p414_sem.specs.State.{State}
use Rattle.p414_sem.specs.Parsing.{Step, to, ended, state_named, step_from, begun, parse_from, most_states, parsed}

-- a step ends, or leads to a state from which it ends
abbrev pub StepEnds : (Name → State → Type 0) → Step → Type 0
StepEnds ends (to called s) = ends called s
StepEnds ends (ended end s) = Unit {0}

-- parsing from a state named so ends within so many states
abbrev pub EndsWithin : List Decl → ℕ → Name → State → Type 0
EndsWithin ds zero called s = state_named ds called ≡ None
EndsWithin ds (suc left) called s = StepEnds (EndsWithin ds left) (step_from ds called s)

-- any greater bound gives the same end
abbrev pub NeverStopped : List Decl → Type 0
NeverStopped ds = (s : State) (left : ℕ) → most_states ds s ≤ left → parse_from ds left (codes "start") (begun ds s) ≡ parsed ds s
