-- Which variables may be in scope together: each has a place of its own (this project's own).
use Rattle.std.specs.Prelude.{ℕ, ◌≢◌, ◌<◌, List, [], ◌∷◌}
use Rattle.v1_core.specs.Numbered.{Variable, InScope}

-- none of these has this number
abbrev pub AreAway : ℕ → List Variable → Type 0
AreAway number [] = Unit {0}
AreAway number (v ∷ variables) = (v.number ≢ number) × AreAway number variables

-- no two of these have one number, and each number is below another
abbrev pub AreApart : ℕ → List Variable → Type 0
AreApart count [] = Unit {0}
AreApart count (v ∷ variables) = (v.number < count) × AreAway v.number variables × AreApart count variables

-- none of these has the number of one of those
abbrev pub AreOthers : List Variable → List Variable → Type 0
AreOthers [] others = Unit {0}
AreOthers (v ∷ variables) others = AreAway v.number others × AreOthers variables others

-- who is in scope, where there are so many variables
pub record IsScope (count : ℕ) (s : InScope) : Type 0 where
  pub variables : AreApart count s.variables
  pub inner : AreApart count s.inner
  pub variables_others : AreOthers s.variables s.inner
  pub inner_others : AreOthers s.inner s.variables
