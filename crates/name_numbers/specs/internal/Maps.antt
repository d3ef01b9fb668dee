-- Maps from names to the numbers of the first that have them.
use Rattle.std.specs.Prelude.{◌≡◌, ℕ, List, Option, Some, unwrap_or, if◌then◌else◌}
use Rattle.std.specs.Ordering.{nat_cmp, is_eq}
use Rattle.std.specs.declared.cmp.Ordering.{Ordering}
use Rattle.std.specs.Cmp.Lexicographic.{slice_cmp}
use Rattle.std.specs.BTreeMap.{BTreeMap, get, get_by}
use Rattle.name_numbers.specs.Names.{Name, find_name}

-- the new map has the number at the key, where the old one had none, and else what the old one had
abbrev pub IsPut : {K : Type 0} → (K → K → Ordering) → BTreeMap K ℕ → BTreeMap K ℕ → K → ℕ → Type 0
IsPut {K} cmp old new key number =
    (other : K) →
    get cmp new other ≡
    (if is_eq (cmp key other) then Some (unwrap_or (get cmp old key) number) else get cmp old other)

-- what the map has at a name
abbrev pub found_at : {K : Type 0} → (K → Name) → BTreeMap K ℕ → Name → Option ℕ
found_at {K} now map name = get_by (λ key. slice_cmp nat_cmp name (now key)) map

-- for each name the map has the number of the first of these that is equal to it
abbrev pub IsIndex : {K : Type 0} → (K → Name) → BTreeMap K ℕ → List Name → Type 0
IsIndex {K} now map names = (name : Name) → found_at now map name ≡ find_name names name
