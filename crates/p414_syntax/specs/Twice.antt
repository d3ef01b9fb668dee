-- C1: a name is declared twice in its sort: header types; instances; parser states and controls together; actions;
-- tables; field lists; calculations; counters, meters and registers together; fields of a type; parameters of an
-- action; initial values of an instance (P4_14 1.0.5, "Summary of P4 BNF"; the sorts are this project's own).
use Rattle.std.specs.Prelude.{Bool, false, ◌||◌, List, [], ◌∷◌, map}
use Rattle.std.specs.List.{list_any}
use Rattle.p414_syntax.specs.declared.syntax.Decl.{Decl}
use Rattle.p414_syntax.specs.declared.syntax.Decl.TheVariants as decl
use Rattle.p414_syntax.specs.declared.syntax.Sort.{Sort}
use Rattle.p414_syntax.specs.declared.syntax.Sort.TheVariants as sort
use Rattle.p414_syntax.specs.Attributes.{initials_of}
use Rattle.p414_syntax.specs.Views.{HeaderTypeTree}
use Rattle.p414_syntax.specs.Fields.{types}
use Rattle.p414_syntax.specs.Names.{Name, names_in, repeats, field_name, initial_name}
use Rattle.p414_syntax.specs.Primitives.{is_standard, is_any_primitive}

abbrev pub sorts : List Sort
sorts =
    sort.HeaderType ∷ sort.Instance ∷ sort.Parse ∷ sort.Action ∷ sort.Table ∷ sort.List ∷ sort.Calculation
    ∷ sort.Object ∷ []

-- The sort has the name before anything is declared: `standard_metadata` is an instance, and the primitives, left out
-- or not, are actions.
abbrev pub is_reserved : Sort → Name → Bool
is_reserved sort.Instance name = is_standard name
is_reserved sort.Action name = is_any_primitive name
is_reserved _ name = false

-- a name of the sort is reserved there, or stands twice
abbrev pub repeats_in : List Decl → Sort → Bool
repeats_in ds sort = list_any (is_reserved sort) (names_in sort ds) || repeats (names_in sort ds)

-- two fields of a type have one name
abbrev pub has_field_twice : HeaderTypeTree → Bool
has_field_twice t = repeats (map field_name t.fields)

-- two parameters of an action, or two initial values of an instance, have one name
abbrev pub repeats_within : Decl → Bool
repeats_within (decl.Action x) = repeats x.parameters
repeats_within (decl.Metadata x) = repeats (map initial_name (initials_of x.initials))
repeats_within _ = false

abbrev pub declares_twice : List Decl → Bool
declares_twice ds =
    list_any (repeats_in ds) sorts || (list_any has_field_twice (types ds) || list_any repeats_within ds)
