-- The names of a program, sort by sort, and the number of a name (P4_14 1.0.5, "Summary of P4 BNF"; which sorts are told
-- apart is this project's own).
use Rattle.std.specs.Prelude.{ℕ, List, map, slice_get, Option, option_and_then}
use Rattle.p414_syntax.specs.declared.syntax.Decl.{Decl}
use Rattle.p414_syntax.specs.declared.syntax.Sort.{Sort}
use Rattle.p414_syntax.specs.declared.syntax.Sort.TheVariants as sort
use Rattle.p414_syntax.specs.Names.{Name, find_name, names_in}
use Rattle.p414_syntax.specs.Twice.{sorts}

-- where a sort stands among the sorts
abbrev pub place_of : Sort → ℕ
place_of sort.HeaderType = 0
place_of sort.Instance = 1
place_of sort.Parse = 2
place_of sort.Action = 3
place_of sort.Table = 4
place_of sort.List = 5
place_of sort.Calculation = 6
place_of sort.Object = 7

-- the names of each of these sorts, in the order of the text
abbrev pub names_for : List Decl → List Sort → List (List Name)
names_for ds ss = map (λ s. names_in s ds) ss

-- the names of each sort
abbrev pub names_by_sort : List Decl → List (List Name)
names_by_sort ds = names_for ds sorts

-- the number of a name in a sort, from 0, given the names of each sort
abbrev pub number_among : Sort → List (List Name) → Name → Option ℕ
number_among s all name = option_and_then (λ names. find_name names name) (slice_get all (place_of s))
