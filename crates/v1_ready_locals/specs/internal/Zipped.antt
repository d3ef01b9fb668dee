-- Declarations with numbers, in the order of the text.
use Rattle.std.specs.Prelude.{ℕ, List, [], ◌∷◌}
use Rattle.p416_syntax.specs.declared.parsers.Var.{Var}
use Rattle.p416_syntax.specs.declared.controls.Action16.{Action16}
use Rattle.v1_block_seats.specs.declared.numbers.Variable.{Variable}
use Rattle.v1_ready_statements.specs.Around.{ActionPlace}
use Rattle.v1_ready_locals.specs.Owned.{Owned, owned_by}

abbrev pub action_from : ℕ → Action16 → ActionPlace
action_from n a = record { of = a; first = n }

abbrev pub zip_actions : List ℕ → List Action16 → List ActionPlace
zip_actions (n ∷ ns) (a ∷ actions) = action_from n a ∷ zip_actions ns actions
zip_actions _ _ = []

abbrev pub number_in : Variable → ℕ
number_in v = v.number

abbrev pub zip_variables : List ℕ → List Var → List Owned
zip_variables (n ∷ ns) (x ∷ vars) = owned_by n x ∷ zip_variables ns vars
zip_variables _ _ = []
