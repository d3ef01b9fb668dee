-- What the index of a table says.
use Rattle.std.specs.Prelude.{◌≡◌, ℕ, length, Bool, true, false, List, [], ◌∷◌}
use Rattle.std.specs.List.{list_all}
use Rattle.std.specs.Ordering.{nat_cmp}
use Rattle.std.specs.Cmp.Lexicographic.{slice_cmp}
use Rattle.std.specs.BTreeMap.{BTreeMap, get}
use Rattle.match_core.specs.declared.signatures.KeyKind.{KeyKind}
use Rattle.match_core.specs.declared.signatures.KeyKind.TheVariants as kind
use Rattle.match_core.specs.declared.signatures.KeySpec.{KeySpec}
use Rattle.match_core.specs.declared.entries.Entry.{Entry}
use Rattle.match_core.specs.declared.entries.KeyMatch.{KeyMatch}
use Rattle.match_core.specs.declared.entries.KeyMatch.TheVariants.{Exact, Ternary, Lpm, Range}
use Rattle.match_core.specs.declared.levels.Level.{Level}
use Rattle.match_core.specs.declared.groups.Group.{Group}
use Rattle.match_core.specs.declared.index.Index.{Index}
use Rattle.match_core.specs.declared.index.Index.TheVariants.{Numbers, Keys, Groups, Order}
use Rattle.match_core.specs.Signatures.{AreSpecs}
use Rattle.match_core.specs.Best.{Filled, IsBest}
use Rattle.match_core.specs.internal.Levels.{AreLevels}
use Rattle.match_core.specs.internal.Codes.{are_plain, IsCodeIndex, number_found}
use Rattle.match_core.specs.internal.Groups.{pairs_of, AreInOrder, AreGroups, group_found}
use Rattle.match_core.specs.internal.Order.{IsOrder}

abbrev pub is_exact : KeyKind → Bool
is_exact kind.Exact = true
is_exact kind.Ternary = false
is_exact kind.Lpm = false
is_exact kind.Range = false

-- all keys of a table are exact
abbrev pub are_exact : List KeySpec → Bool
are_exact specs = list_all (λ spec. is_exact spec.kind) specs

-- a map that has the best entry of each key
abbrev pub IsKeyIndex : Filled → BTreeMap (List ℕ) ℕ → Type 0
IsKeyIndex table map = (key : List ℕ) → IsBest table key (get (slice_cmp nat_cmp) map key)

-- the value that an exact key asks for
abbrev pub value_of : KeyMatch → ℕ
value_of (Exact value) = value
value_of (Ternary value mask) = 0
value_of (Lpm value length) = 0
value_of (Range low high) = 0

-- levels that have the first entry of each length and number
pub record IsLevelIndex (specs : List KeySpec) (entries : List Entry) (levels : List Level) : Type 0 where
  pub plain : are_plain specs ≡ true
  pub specs_are : AreSpecs specs
  pub are : AreLevels levels
  pub index : IsCodeIndex specs entries (length entries) (number_found levels)

-- the same, of the one key of a table
abbrev pub IsNumberIndex : List KeySpec → List Entry → List Level → Type 0
IsNumberIndex [] entries levels = ⊥
IsNumberIndex (spec ∷ []) entries levels = IsLevelIndex (spec ∷ []) entries levels
IsNumberIndex (spec ∷ _) entries levels = ⊥

-- groups, by their exact values in order, that have the first entry of each length and code
pub record IsGroupIndex (specs : List KeySpec) (entries : List Entry) (groups : List Group) : Type 0 where
  pub plain : are_plain specs ≡ true
  pub specs_are : AreSpecs specs
  pub in_order : AreInOrder (pairs_of groups)
  pub are : AreGroups (pairs_of groups)
  pub index : IsCodeIndex specs entries (length entries) (group_found specs (pairs_of groups))

-- what the index of a table says
abbrev pub IsIndex : Filled → Index → Type 0
IsIndex table (Numbers levels) = IsNumberIndex table.specs table.entries levels.items
IsIndex table (Keys map) = IsKeyIndex table map
IsIndex table (Groups groups) = IsGroupIndex table.specs table.entries groups.items
IsIndex table (Order places) = IsOrder table places.items
