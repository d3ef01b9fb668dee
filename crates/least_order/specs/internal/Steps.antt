-- An order that is made number by number: the least number is taken that is free.
use Rattle.std.specs.Prelude.{ℕ, ◌≤◌, List, [], ◌∷◌, ◌++◌}
use Rattle.digraph.specs.Graphs.{Among}

-- all that are before x were taken
abbrev pub IsFree : (ℕ → Type 0) → (ℕ → ℕ → Type 0) → List ℕ → ℕ → Type 0
IsFree IsOne IsBefore taken x = (z : ℕ) → IsOne z → IsBefore z x → Among z taken

-- of those that weren't taken x is the least that is free
pub record IsNext (IsOne : ℕ → Type 0) (IsBefore : ℕ → ℕ → Type 0) (taken : List ℕ) (x : ℕ) : Type 0 where
  pub one : IsOne x
  pub fresh : Among x taken → ⊥
  pub free : IsFree IsOne IsBefore taken x
  pub least : (y : ℕ) → IsOne y → (Among y taken → ⊥) → IsFree IsOne IsBefore taken y → x ≤ y

-- each number of the list is the next one behind those in front of it
abbrev pub AreSteps : (ℕ → Type 0) → (ℕ → ℕ → Type 0) → List ℕ → List ℕ → Type 0
AreSteps IsOne IsBefore taken [] = Unit {0}
AreSteps IsOne IsBefore taken (x ∷ rest) =
    IsNext IsOne IsBefore taken x × AreSteps IsOne IsBefore (taken ++ x ∷ []) rest
