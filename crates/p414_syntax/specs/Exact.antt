-- An answer that says exactly whether something holds.
use Rattle.std.specs.Prelude.{Bool}
use Rattle.std.specs.Bool.{MatchBool}

abbrev pub IsExact : Bool → Type 0 → Type 0
IsExact answer P = MatchBool answer P (P → ⊥)
