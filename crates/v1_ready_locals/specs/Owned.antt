-- The variables that a control declares, with their numbers among all variables and parameters of actions of the program, of which the
-- first has this number.
use Rattle.std.specs.Prelude.{ℕ, suc, ◌+◌, List, [], ◌∷◌, length}
use Rattle.p416_syntax.specs.declared.parsers.Var.{Var}
use Rattle.p416_syntax.specs.declared.controls.Local.{Local}
use Rattle.p416_syntax.specs.declared.controls.Local.TheVariants as local
use Rattle.p416_syntax.specs.Scopes.{Scope}
use Rattle.v1_core.specs.Slots.{local_kinds}
use Rattle.v1_ready_bodies.specs.declared.variables.OwnVariable.{OwnVariable}

pub record Owned : Type 0 where
  pub number : ℕ
  pub var : Var

abbrev pub seen_own : OwnVariable → Owned
seen_own v = record { number = v.number; var = v.var.now }

abbrev pub owned_by : ℕ → Var → Owned
owned_by n v = record { number = n; var = v }

abbrev pub owned : Scope → ℕ → List Local → List Owned
owned s n [] = []
owned s n (local.Var v ∷ locals) = owned_by n v ∷ owned s (suc n) locals
owned s n (x ∷ locals) = owned s (n + length (local_kinds s x)) locals
