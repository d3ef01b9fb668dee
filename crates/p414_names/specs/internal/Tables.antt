-- The tables of names.
use Rattle.std.specs.Prelude.{◌≡◌, ℕ, ◌≤◌, List, length, map, slice_get, Option, option_and_then}
use Rattle.p414_syntax.specs.declared.syntax.Decl.{Decl}
use Rattle.p414_syntax.specs.declared.syntax.Sort.{Sort}
use Rattle.p414_syntax.specs.Views.{HeaderTypeTree}
use Rattle.p414_syntax.specs.Names.{Name}
use Rattle.p414_syntax.specs.Twice.{sorts}
use Rattle.p414_syntax.specs.Fields.{types, instance_of, type_name_in, instance_type, width_in}

-- one table for each sort
abbrev pub scope_in : List Decl → Sort → Sort × List Decl
scope_in ds sort = (sort, ds)

abbrev pub scopes : List Decl → List Sort → List (Sort × List Decl)
scopes ds ss = map (scope_in ds) ss

pub record AreTables (ds : List Decl) (tables : List (Sort × List Decl)) (ts : List HeaderTypeTree) : Type 0 where
  pub scopes_are : tables ≡ scopes ds sorts
  pub types_are : ts ≡ types ds
  pub few : length ds ≤ 4294967295

-- the bits of a field of the header type with this number, if it has one
abbrev pub width_at : List HeaderTypeTree → ℕ → Name → Option ℕ
width_at ts number field = option_and_then (λ t. width_in t field) (slice_get ts number)

-- the name of the type of a declared instance
abbrev pub type_name_of : List Decl → Name → Option Name
type_name_of ds name = option_and_then type_name_in (instance_of ds name)

-- the bits of a field of a declared instance
abbrev pub declared_width : List Decl → Name → Name → Option ℕ
declared_width ds instance field = option_and_then (λ t. width_in t field) (instance_type ds instance)
