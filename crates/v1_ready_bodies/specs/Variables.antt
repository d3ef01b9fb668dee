-- The variables of a block in front of a statement (P4_16 1.2, "Variable declarations"): all start, and then come their initial
-- values, in order.
use Rattle.std.specs.Prelude.{ℕ, List, [], ◌∷◌, Option, Some, None}
use Rattle.p416_syntax.specs.declared.parsers.Var.{Var}
use Rattle.p416_syntax.specs.Tree.{Exp16}
use Rattle.p416_syntax.specs.Scopes.{Scope, kind_of_type}
use Rattle.v1_ready_forms.specs.Named.{NamedSeat}
use Rattle.v1_ready_blocks.specs.Statements.{Statement, sequence}
use Rattle.v1_ready_statements.specs.Around.{Around}
use Rattle.v1_ready_statements.specs.Statements.{both_ready, start_ready, initial_ready}
use Rattle.v1_ready_bodies.specs.declared.variables.OwnVariable.{OwnVariable}

abbrev pub starts_ready : Around → Scope → List OwnVariable → Option Statement → Option Statement
starts_ready b s [] rest = rest
starts_ready b s (v ∷ variables) rest = both_ready sequence (start_ready b s v.number) (starts_ready b s variables rest)

-- an initial value, where there is one
abbrev pub initial_before : Around → Scope → List NamedSeat → ℕ → Var → Option Exp16 → Option Statement → Option Statement
initial_before b s seats n v None rest = rest
initial_before b s seats n v (Some e) rest =
    both_ready sequence (initial_ready b s seats n (kind_of_type s.names v.of) e) rest

abbrev pub initials_ready : Around → Scope → List NamedSeat → List OwnVariable → Option Statement → Option Statement
initials_ready b s seats [] rest = rest
initials_ready b s seats (v ∷ variables) rest =
    initial_before b s seats v.number v.var.now v.var.now.initial (initials_ready b s seats variables rest)

abbrev pub variables_ready : Around → Scope → List NamedSeat → List OwnVariable → Option Statement → Option Statement
variables_ready b s seats variables rest = starts_ready b s variables (initials_ready b s seats variables rest)
