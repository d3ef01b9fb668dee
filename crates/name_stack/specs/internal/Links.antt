-- What the names on a stack know of each other.
use Rattle.std.specs.Prelude.{◌≡◌, ℕ, List, [], ◌∷◌, ◌++◌, map, Option, Some, None, if◌then◌else◌}
use Rattle.std.specs.Ordering.{nat_cmp, is_eq}
use Rattle.std.specs.declared.cmp.Ordering.{Ordering}
use Rattle.std.specs.Cmp.Lexicographic.{slice_cmp}
use Rattle.std.specs.BTreeMap.{BTreeMap, get, get_by}
use Rattle.name_stack.specs.Newest.{Name, newest}
use Rattle.name_stack.specs.declared.stack.Entry.{Entry}

-- the name of an entry
abbrev pub entry_name : Entry → Name
entry_name e = e.name.now

-- the new map has the value at the key, and else what the old one had
abbrev pub IsSet : {K V : Type 0} → (K → K → Ordering) → BTreeMap K V → BTreeMap K V → K → V → Type 0
IsSet {K} cmp old new key value =
    (other : K) → get cmp new other ≡ (if is_eq (cmp key other) then Some value else get cmp old other)

abbrev pub joined : Option (Option ℕ) → Option ℕ
joined None = None
joined (Some place) = place

-- what the map has at a name
abbrev pub place_at : {K : Type 0} → (K → Name) → BTreeMap K (Option ℕ) → Name → Option ℕ
place_at {K} now map name = joined (get_by (λ key. slice_cmp nat_cmp name (now key)) map)

-- each entry, behind these names, knows where its name stood last
abbrev pub AreLinked : List Name → List Entry → Type 0
AreLinked before [] = Unit {0}
AreLinked before (e ∷ es) = (e.hidden ≡ newest before (entry_name e)) × AreLinked (before ++ entry_name e ∷ []) es

-- and the map knows where each name stands last
pub record IsStack {K : Type 0} (now : K → Name) (es : List Entry) (places : BTreeMap K (Option ℕ)) : Type 0 where
  pub linked : AreLinked [] es
  pub newest_are : (name : Name) → place_at now places name ≡ newest (map entry_name es) name
