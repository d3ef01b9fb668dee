-- The new names of what a program declares, as they are handed on (this project's own).
use Rattle.std.specs.Prelude.{List, [], ◌∷◌, map, flat_map, unwrap_or}
use Rattle.p414_syntax.specs.declared.syntax.Decl.{Decl}
use Rattle.p414_syntax.specs.declared.syntax.Sort.{Sort}
use Rattle.p414_syntax.specs.declared.syntax.Sort.TheVariants as sort
use Rattle.p414_syntax.specs.Names.{Name, names_in, number_of}
use Rattle.lower_laws_names.specs.NewNames.{new_name}
use Rattle.lower_names.specs.declared.renamed.Renamed.{Renamed}

-- the new name of what has a name in a sort
abbrev pub renamed : List Decl → Sort → Name → Renamed
renamed ds s name = record { sort = s; number = unwrap_or (number_of s ds name) 0; name = new_name ds s name }

-- the new names of a sort, in the order of declaration
abbrev pub renamed_of : List Decl → Sort → List Renamed
renamed_of ds s = map (renamed ds s) (names_in s ds)

-- the sorts that have new names
abbrev pub renamed_sorts : List Sort
renamed_sorts = sort.HeaderType ∷ sort.Instance ∷ sort.Parse ∷ sort.Action ∷ sort.Table ∷ sort.Object ∷ []

-- the new names of a program, sort by sort
abbrev pub new_names : List Decl → List Renamed
new_names ds = flat_map (renamed_of ds) renamed_sorts
