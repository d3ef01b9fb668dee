-- Which kinds variables and parameters of actions have, by their numbers (P4_16 1.2, "Variable declarations"; the numbers are
-- this project's own).
use Rattle.std.specs.Prelude.{◌≡◌, ℕ, suc, ◌<◌, List, [], ◌∷◌, length, slice_index_or}
use Rattle.p416_syntax.specs.Kinds.{Kind, unknown}

-- of these all, the one with this number is of this kind
pub record IsOfKind (all : List Kind) (n : ℕ) (k : Kind) : Type 0 where
  pub within : n < length all
  pub kind : slice_index_or all n unknown ≡ k

-- those from this number on are of these kinds
abbrev pub AreOfKinds : List Kind → ℕ → List Kind → Type 0
AreOfKinds all n [] = Unit {0}
AreOfKinds all n (k ∷ kinds) = IsOfKind all n k × AreOfKinds all (suc n) kinds
