-- That variables which are in scope together have places of their own (P4_16 1.2, "Name resolution"; the numbers are this
-- project's own).
use Rattle.std.specs.Prelude.{◌⊎◌, ℕ, ◌≤◌, ◌<◌, List, [], ◌∷◌}
use Rattle.v1_core.specs.Numbered.{Variable, InScope}
use Rattle.v1_core.specs.Scopes.{AreApart}

-- their numbers begin with one number and are below another
abbrev pub AreBetween : ℕ → ℕ → List Variable → Type 0
AreBetween from to [] = Unit {0}
AreBetween from to (v ∷ vs) = (from ≤ v.number) × (v.number < to) × AreBetween from to vs

-- none of their numbers is such a one
abbrev pub AreOutside : ℕ → ℕ → List Variable → Type 0
AreOutside from to [] = Unit {0}
AreOutside from to (v ∷ vs) = ((v.number < from) ⊎ (to ≤ v.number)) × AreOutside from to vs

-- Statements whose variables, with the parameters of their action, have the numbers from one up to another, of so many that
-- there are: those that are declared already are below a third one.
pub record AreInBody (count from to next : ℕ) (who : InScope) : Type 0 where
  pub begun : from ≤ next
  pub left : next ≤ to
  pub variables : AreApart count who.variables
  pub outside : AreOutside from to who.variables
  pub inner : AreApart count who.inner
  pub between : AreBetween from next who.inner
