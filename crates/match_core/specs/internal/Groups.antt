-- How an entry whose keys are exact, but for one lpm key at most, is found: its exact values find a group, and in the
-- group its prefix finds it, as where the lpm key is the table's one key.
use Rattle.std.specs.Prelude.{◌≡◌, ℕ, if◌then◌else◌, List, [], ◌∷◌, map, Option, Some, None}
use Rattle.std.specs.Global.{Vec}
use Rattle.std.specs.Ordering.{nat_cmp, is_eq}
use Rattle.std.specs.Cmp.Lexicographic.{slice_cmp}
use Rattle.std.specs.List.Sorted.{IsStrictlySortedBy}
use Rattle.std.specs.Map.{lookup, keys_of}
use Rattle.std.specs.BTreeMap.{is_at}
use Rattle.match_core.specs.declared.groups.Group.{Group}
use Rattle.match_core.specs.declared.signatures.KeySpec.{KeySpec}
use Rattle.match_core.specs.declared.levels.Level.{Level}
use Rattle.match_core.specs.Signatures.{is_lpm}
use Rattle.match_core.specs.internal.Levels.{AreLevels, found_in, IsPutAt}

-- the group of a code, or of a key: its numbers, with 0 for the one at the lpm key
abbrev pub group_of : List KeySpec → List ℕ → List ℕ
group_of [] code = code
group_of (spec ∷ specs) [] = []
group_of (spec ∷ specs) (number ∷ code) = (if is_lpm spec.kind then 0 else number) ∷ group_of specs code

-- the number at the lpm key, or 0 where there is none
abbrev pub prefix_in : List KeySpec → List ℕ → ℕ
prefix_in [] code = 0
prefix_in (spec ∷ specs) [] = 0
prefix_in (spec ∷ specs) (number ∷ code) = if is_lpm spec.kind then number else prefix_in specs code

-- how many bits the lpm key has, or 0 where there is none
abbrev pub width_in : List KeySpec → ℕ
width_in [] = 0
width_in (spec ∷ specs) = if is_lpm spec.kind then spec.width else width_in specs

-- the levels of a group; no levels where there is no such group
abbrev pub levels_in : Option (Vec Level) → List Level
levels_in None = []
levels_in (Some levels) = levels.items

-- groups with the levels of each
abbrev pub LevelsByGroup : Type 0
LevelsByGroup = List (List ℕ × Vec Level)

abbrev pub pairs_of : List Group → LevelsByGroup
pairs_of groups = map (λ group. (group.values, group.levels)) groups

abbrev pub levels_at : LevelsByGroup → List ℕ → List Level
levels_at groups group = levels_in (lookup (is_at (slice_cmp nat_cmp group)) groups)

-- the groups stand in the order of their numbers, each once
abbrev pub AreInOrder : LevelsByGroup → Type 0
AreInOrder groups = IsStrictlySortedBy (slice_cmp nat_cmp) (keys_of groups)

-- each group has levels, those with more bits before those with fewer
abbrev pub AreGroups : LevelsByGroup → Type 0
AreGroups groups = (group : List ℕ) → AreLevels (levels_at groups group)

-- the new groups have these levels for the group, and for each other one what the old groups had
abbrev pub AreGiven : LevelsByGroup → LevelsByGroup → List ℕ → List Level → Type 0
AreGiven old new group levels =
    (other : List ℕ) →
    levels_at new other ≡ (if is_eq (slice_cmp nat_cmp group other) then levels else levels_at old other)

-- what groups have for a code
abbrev pub group_found : List KeySpec → LevelsByGroup → ℕ → List ℕ → Option ℕ
group_found specs groups bits code =
    found_in nat_cmp (levels_at groups (group_of specs code)) bits (prefix_in specs code)

-- the number of an entry is put at the code of so many bits, where none stood
abbrev pub IsCodePut : List KeySpec → LevelsByGroup → LevelsByGroup → ℕ → List ℕ → ℕ → Type 0
IsCodePut specs old new bits code i =
    IsPutAt (slice_cmp nat_cmp) (group_found specs old) (group_found specs new) bits code i
