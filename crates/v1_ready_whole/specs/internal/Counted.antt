-- The variables of a parser with their numbers, of which the first has this one.
use Rattle.std.specs.Prelude.{ℕ, suc, List, [], ◌∷◌}
use Rattle.p416_syntax.specs.declared.parsers.Var.{Var}
use Rattle.v1_ready_locals.specs.Owned.{Owned, owned_by}

abbrev pub counted : ℕ → List Var → List Owned
counted n [] = []
counted n (v ∷ vars) = owned_by n v ∷ counted (suc n) vars
