-- C18: a list that resubmit, recirculate or a clone preserves holds something other than metadata, or over 255 lists
-- are preserved. C19: a field that is preserved has an initial value (P4_14 1.0.5, "Field Lists", "Primitive
-- Actions", "Header and Metadata Instances"; the limit is this project's own). The fields of `standard_metadata` are
-- metadata. A list that several calls name is one. Each declared action is judged, also one that nothing reaches.
use Rattle.std.specs.Prelude.{◌⊎◌, Bool, true, false, not, ◌||◌, nat_lt, IsTrue, List, [], ◌∷◌, length, map, flat_map}
use Rattle.std.specs.List.{list_any}
use Rattle.std.specs.Option.{option_map_or}
use Rattle.p414_syntax.specs.declared.calculations.Item.{Item}
use Rattle.p414_syntax.specs.declared.calculations.Item.TheVariants as item
use Rattle.p414_syntax.specs.declared.syntax.Decl.{Decl}
use Rattle.p414_syntax.specs.declared.syntax.Decl.TheVariants as decl
use Rattle.p414_syntax.specs.Attributes.{initials_of}
use Rattle.p414_syntax.specs.declared.place.ArgumentPlace.{ArgumentPlace}
use Rattle.p414_syntax.specs.declared.place.ArgumentPlace.TheVariants as place
use Rattle.p414_syntax.specs.Names.{Name, has_name, initial_name}
use Rattle.p414_syntax.specs.Primitives.{is_standard}
use Rattle.p414_syntax.specs.Fields.{instance_of}
use Rattle.p414_syntax.specs.Expansion.{Joins}
use Rattle.p414_syntax.specs.Distinct.{distinct}
use Rattle.p414_syntax.specs.Arguments.{Argument, name_argument, PlacedArgument, placed_arguments}
use Rattle.p414_syntax.specs.Targets.{is_metadata}

-- the lists that are preserved, each once

abbrev pub list_at : ArgumentPlace → Argument → List Name
list_at place.List (name_argument i) = i.name ∷ []
list_at _ _ = []

abbrev pub list_of : PlacedArgument → List Name
list_of a = list_at a.wanted a.argument

abbrev pub preserved_lists : List Decl → List Name
preserved_lists ds = distinct (flat_map list_of (placed_arguments ds))

-- an item of these lists, expanded, is bad
abbrev pub PreservesBad : (Item → Bool) → List Decl → Type 0
PreservesBad is_bad ds = (items : List Item) × Joins ds (preserved_lists ds) items × IsTrue (list_any is_bad items)

-- C18

abbrev pub is_no_metadata_item : List Decl → Item → Bool
is_no_metadata_item ds (item.Field r) = not (is_standard r.instance.name || is_metadata ds r.instance.name)
is_no_metadata_item ds _ = true

abbrev pub preserves_too_many : List Decl → Bool
preserves_too_many ds = nat_lt 255 (length (preserved_lists ds))

abbrev pub HasBadPreservedList : List Decl → Type 0
HasBadPreservedList ds = IsTrue (preserves_too_many ds) ⊎ PreservesBad (is_no_metadata_item ds) ds

-- C19

abbrev pub initialized_in : Decl → List Name
initialized_in (decl.Metadata x) = map initial_name (initials_of x.initials)
initialized_in _ = []

abbrev pub initialized : List Decl → Name → List Name
initialized ds name = option_map_or initialized_in (instance_of ds name) []

abbrev pub is_initialized : List Decl → Item → Bool
is_initialized ds (item.Field r) = has_name (initialized ds r.instance.name) r.field
is_initialized ds _ = false

abbrev pub PreservesInitialized : List Decl → Type 0
PreservesInitialized ds = PreservesBad (is_initialized ds) ds
