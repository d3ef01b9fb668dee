-- What is asked of an item of a field list that stands for no other list.
use Rattle.std.specs.Prelude.{Bool, true, false, not, ◌||◌, ◌&&◌, nat_lt, List, length, map, slice_get, option_and_then}
use Rattle.std.specs.List.{list_any}
use Rattle.std.specs.Option.{option_map_or}
use Rattle.p414_syntax.specs.declared.calculations.Item.{Item}
use Rattle.p414_syntax.specs.declared.calculations.Item.TheVariants as item
use Rattle.p414_syntax.specs.declared.syntax.Decl.{Decl}
use Rattle.p414_syntax.specs.declared.syntax.Sort.TheVariants as sort
use Rattle.p414_syntax.specs.Names.{Name, has_name, number_of, declared_in}
use Rattle.p414_syntax.specs.Primitives.{is_standard}
use Rattle.p414_syntax.specs.Targets.{is_metadata}
use Rattle.p414_syntax.specs.Expansion.{fields_of}
use Rattle.p414_syntax.specs.Distinct.{distinct}
use Rattle.p414_syntax.specs.Preserved.{initialized_in, initialized}
use Rattle.p414_syntax.specs.Payloads.{is_payload}
use Rattle.p414_preserved_check.specs.declared.asking.Asked.{Asked}
use Rattle.p414_preserved_check.specs.declared.asking.Asked.TheVariants.{NoMetadata, Initialized, Payload, Anything}

-- every item
abbrev pub is_anything : Item → Bool
is_anything i = true

-- an instance has a field
abbrev pub has_fields : List Decl → Name → Bool
has_fields ds name = nat_lt 0 (length (fields_of ds name))

abbrev pub fills_by : List Decl → Item → Bool
fills_by ds (item.Instance i) = has_fields ds i.name
fills_by ds _ = true

-- the instance with this name isn't metadata
abbrev pub is_no_metadata : List Decl → Name → Bool
is_no_metadata ds name = not (is_standard name || is_metadata ds name)

abbrev pub no_metadata_by : List Decl → Item → Bool
no_metadata_by ds (item.Instance i) = has_fields ds i.name && is_no_metadata ds i.name
no_metadata_by ds (item.Field r) = is_no_metadata ds r.instance.name
no_metadata_by ds _ = true

-- of each instance the names of the fields that have an initial value, each once
abbrev pub initial_set : Decl → List Name
initial_set d = distinct (initialized_in d)

abbrev pub initial_sets : List Decl → List (List Name)
initial_sets ds = map initial_set (declared_in sort.Instance ds)

abbrev pub has_field : Name → List Name → Bool
has_field field names = has_name names field

abbrev pub set_has : List Decl → List (List Name) → Name → Name → Bool
set_has ds sets name field =
    option_map_or (has_field field) (option_and_then (slice_get sets) (number_of sort.Instance ds name)) false

-- one of these initial values is that of a field
abbrev pub is_field : List Decl → Name → Name → Bool
is_field ds name field = has_name (fields_of ds name) field

abbrev pub some_initial : List Decl → Name → Bool
some_initial ds name = list_any (is_field ds name) (initialized ds name)

abbrev pub initialized_by : List Decl → List (List Name) → Item → Bool
initialized_by ds sets (item.Instance i) = some_initial ds i.name
initialized_by ds sets (item.Field r) = set_has ds sets r.instance.name r.field
initialized_by ds sets _ = false

-- what is asked, given these sets
abbrev pub asked_of : List Decl → List (List Name) → Asked → Item → Bool
asked_of ds sets NoMetadata i = no_metadata_by ds i
asked_of ds sets Initialized i = initialized_by ds sets i
asked_of ds sets Payload i = is_payload i
asked_of ds sets Anything i = fills_by ds i
