-- What is counted of the items of field lists.
use Rattle.std.specs.Prelude.{ℕ, Bool, false, cond, is_some, nat_lt, List, length, Option, Some, None}
use Rattle.p414_syntax.specs.declared.parts.Inst.{Inst}
use Rattle.p414_syntax.specs.declared.calculations.Item.{Item}
use Rattle.p414_syntax.specs.declared.calculations.Item.TheVariants as item
use Rattle.p414_syntax.specs.declared.syntax.Decl.{Decl}
use Rattle.p414_syntax.specs.Primitives.{is_standard}
use Rattle.p414_syntax.specs.Expansion.{inner_by_name, fields_of}
use Rattle.p414_syntax.specs.Lists.{is_standard_item}
use Rattle.p414_list_check.specs.declared.expanded.Measure.{Measure}
use Rattle.p414_list_check.specs.declared.expanded.Measure.TheVariants.{Items, Standard}

-- each item counts
abbrev pub one : Item → ℕ
one i = 1

-- a field of `standard_metadata` counts
abbrev pub standard : Item → ℕ
standard i = cond (is_standard_item i) 1 0

-- what an item comes to by itself, unless it stands for a list
abbrev pub own_length_of : List Decl → Inst → ℕ
own_length_of ds i = cond (is_some (inner_by_name ds i)) 0 (length (fields_of ds i.name))

abbrev pub own_length : List Decl → Item → ℕ
own_length ds (item.Instance i) = own_length_of ds i
own_length ds _ = 1

-- the fields of `standard_metadata` in that
abbrev pub own_standard : Item → ℕ
own_standard (item.Instance i) = cond (is_standard i.name) 5 0
own_standard (item.Field r) = cond (is_standard r.instance.name) 1 0
own_standard _ = 0

-- the total, if there is one, is over a number
abbrev pub exceeds : Option ℕ → ℕ → Bool
exceeds (Some n) most = nat_lt most n
exceeds None most = false

-- what a measure counts: of each item, and of what it comes to by itself
abbrev pub weight_of : Measure → Item → ℕ
weight_of Items i = one i
weight_of Standard i = standard i

abbrev pub own_of : List Decl → Measure → Item → ℕ
own_of ds Items i = own_length ds i
own_of ds Standard i = own_standard i
