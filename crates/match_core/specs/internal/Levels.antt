-- Maps by prefix length.
use Rattle.std.specs.Prelude.{◌≡◌, ℕ, ◌<◌, ◌==◌, ◌&&◌, List, [], ◌∷◌}
use Rattle.std.specs.Prelude.{Option, Some, None, unwrap_or, if◌then◌else◌}
use Rattle.std.specs.Ordering.{is_eq}
use Rattle.std.specs.declared.cmp.Ordering.{Ordering}
use Rattle.match_core.specs.declared.levels.Level.{Level}
use Rattle.match_core.specs.internal.Maps.{stored}

-- each level has fewer bits than that
abbrev pub AllUnder : ℕ → List Level → Type 0
AllUnder bits [] = Unit {0}
AllUnder bits (level ∷ levels) = (level.bits < bits) × AllUnder bits levels

-- the levels with more bits stand before those with fewer
abbrev pub AreLevels : List Level → Type 0
AreLevels [] = Unit {0}
AreLevels (level ∷ levels) = AllUnder level.bits levels × AreLevels levels

-- what the level of so many bits has at a key
abbrev pub found_in : (ℕ → ℕ → Ordering) → List Level → ℕ → ℕ → Option ℕ
found_in cmp [] bits key = None
found_in cmp (level ∷ levels) bits key =
    if level.bits == bits then stored cmp level.map key else found_in cmp levels bits key

-- the number is found at the key of so many bits where none was found before, and else what was found before
abbrev pub IsPutAt : {K : Type 0} → (K → K → Ordering) → (ℕ → K → Option ℕ) → (ℕ → K → Option ℕ) → ℕ → K → ℕ → Type 0
IsPutAt {K} cmp before after bits key i =
    (many : ℕ) (other : K) →
    after many other ≡
    (if (bits == many) && is_eq (cmp key other) then Some (unwrap_or (before bits key) i) else before many other)

-- the same, of what two lists of levels have
abbrev pub IsLevelPut : (ℕ → ℕ → Ordering) → List Level → List Level → ℕ → ℕ → ℕ → Type 0
IsLevelPut cmp old new bits key i = IsPutAt cmp (found_in cmp old) (found_in cmp new) bits key i
