-- Maps in which the first number that was put at a key stays.
use Rattle.std.specs.Prelude.{◌≡◌, ℕ, ◌-◌, ◌%◌, ◌≤◌, min, bit_and, true, List, [], ◌∷◌, ◌++◌, length, slice_index_or, Option, Some, is_some, unwrap_or, if◌then◌else◌}
use Rattle.std.specs.Ordering.{nat_cmp, is_eq}
use Rattle.std.specs.declared.cmp.Ordering.{Ordering}
use Rattle.std.specs.Map.{lookup}
use Rattle.std.specs.BTreeMap.{is_at}

-- the number at a key, of the entries of a map
abbrev pub stored : {K : Type 0} → (K → K → Ordering) → List (K × ℕ) → K → Option ℕ
stored cmp entries key = lookup (is_at (cmp key)) entries

-- the new map has the number at the key, where the old one had none, and else what the old one had
abbrev pub IsPut : {K : Type 0} → (K → K → Ordering) → List (K × ℕ) → List (K × ℕ) → K → ℕ → Type 0
IsPut {K} cmp old new key i =
    (other : K) →
    stored cmp new other ≡
    (if is_eq (cmp key other) then Some (unwrap_or (stored cmp old key) i) else stored cmp old other)

-- the part in which a number stands, of so many: its low bits tell
abbrev pub part_number : ℕ → ℕ → ℕ
part_number count number = min (bit_and (number % 8192) (count - 1)) (count - 1)

-- what all parts have, one behind the other
abbrev pub joined : List (List (ℕ × ℕ)) → List (ℕ × ℕ)
joined [] = []
joined (part ∷ parts) = part ++ joined parts

-- there is a part, and a number stands in its own part alone
pub record AreParts (parts : List (List (ℕ × ℕ))) : Type 0 where
  pub some : 1 ≤ length parts
  pub own : (place number : ℕ) → is_some (stored nat_cmp (slice_index_or parts place []) number) ≡ true → place ≡ part_number (length parts) number
