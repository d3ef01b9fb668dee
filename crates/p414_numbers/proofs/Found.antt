-- The number of a name among the names of each sort is its number in the program.
use Rattle.std.proofs.Common.{◌≡◌, refl}
use Rattle.p414_syntax.specs.declared.syntax.Decl.{Decl}
use Rattle.p414_syntax.specs.declared.syntax.Sort.{Sort}
use Rattle.p414_syntax.specs.declared.syntax.Sort.TheVariants as sort
use Rattle.std.specs.Prelude.{List}
use Rattle.p414_syntax.specs.Names.{Name, number_of}
use Rattle.p414_numbers.specs.Sorts.{names_by_sort, number_among}

pub number_found : (s : Sort) (ds : List Decl) (name : Name) → number_among s (names_by_sort ds) name ≡ number_of s ds name
number_found sort.HeaderType ds name = refl
number_found sort.Instance ds name = refl
number_found sort.Parse ds name = refl
number_found sort.Action ds name = refl
number_found sort.Table ds name = refl
number_found sort.List ds name = refl
number_found sort.Calculation ds name = refl
number_found sort.Object ds name = refl
