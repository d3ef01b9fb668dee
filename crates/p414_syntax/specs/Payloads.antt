-- C20: `payload` isn't last in an expanded list, or is in a list that a hash is over (P4_14 1.0.5, "Field Lists",
-- "Checksums and Hash-value Generators"). Each declared list is judged, also one that nothing uses, and the lists of
-- each calculation, expanded and joined in order, are judged as one.
use Rattle.std.specs.Prelude.{◌≡◌, ℕ, ◌⊎◌, Bool, true, false, ◌||◌, IsTrue, List, [], ◌∷◌, flat_map, Some, Contains}
use Rattle.std.specs.List.{list_any}
use Rattle.p414_syntax.specs.declared.calculations.Item.{Item}
use Rattle.p414_syntax.specs.declared.calculations.Item.TheVariants as item
use Rattle.p414_syntax.specs.declared.syntax.Decl.{Decl}
use Rattle.p414_syntax.specs.declared.syntax.Decl.TheVariants as decl
use Rattle.p414_syntax.specs.Names.{Name}
use Rattle.p414_syntax.specs.Expansion.{items_at, Expands, Joins}
use Rattle.p414_syntax.specs.Arguments.{all_invocations}
use Rattle.p414_syntax.specs.Actions.{hashed_lists}

abbrev pub is_payload : Item → Bool
is_payload item.Payload = true
is_payload _ = false

-- `payload` stands before another item
abbrev pub has_early_payload : List Item → Bool
has_early_payload [] = false
has_early_payload (i ∷ []) = false
has_early_payload (i ∷ next ∷ rest) = is_payload i || has_early_payload (next ∷ rest)

-- a declared list
pub record ListHasEarlyPayload (ds : List Decl) : Type 0 where
  pub list : ℕ
  pub items : List Item
  pub all : List Item
  pub numbered : items_at ds list ≡ Some items
  pub expands : Expands ds items all
  pub early : IsTrue (has_early_payload all)

-- the joined lists of a calculation

abbrev pub input_in : Decl → List (List Name)
input_in (decl.FieldListCalculation x) = x.input ∷ []
input_in _ = []

abbrev pub inputs : List Decl → List (List Name)
inputs ds = flat_map input_in ds

pub record InputHasEarlyPayload (ds : List Decl) : Type 0 where
  pub names : List Name
  pub all : List Item
  pub input : Contains (inputs ds) names
  pub joined : Joins ds names all
  pub early : IsTrue (has_early_payload all)

-- the lists that hashes are over
abbrev pub all_hashed : List Decl → List Name
all_hashed ds = flat_map (hashed_lists ds) (all_invocations ds)

abbrev pub HashesPayload : List Decl → Type 0
HashesPayload ds = (items : List Item) × Joins ds (all_hashed ds) items × IsTrue (list_any is_payload items)

abbrev pub HasBadPayload : List Decl → Type 0
HasBadPayload ds = ListHasEarlyPayload ds ⊎ InputHasEarlyPayload ds ⊎ HashesPayload ds
