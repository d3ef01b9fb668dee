-- What arguments are by number.
use Rattle.std.specs.Prelude.{ℕ, Bool, false, List, slice_get, Option, None}
use Rattle.std.specs.Option.{option_map_or}
use Rattle.p414_syntax.specs.declared.syntax.Decl.{Decl}
use Rattle.p414_syntax.specs.Views.{HeaderTypeTree}
use Rattle.p414_syntax.specs.Names.{Name}
use Rattle.p414_syntax.specs.Expansion.{list_number}
use Rattle.p414_syntax.specs.Fields.{instance_type}
use Rattle.p414_syntax.specs.Arguments.{Argument, number_argument, field_argument, parameter_argument, name_argument}
use Rattle.p414_sem.specs.Slots.{is_saturating}

-- how many elements an argument says
abbrev pub count_by : Argument → ℕ
count_by (number_argument n) = n.literal.value
count_by (field_argument r) = 1
count_by (parameter_argument n) = 1
count_by (name_argument i) = 1

-- the field list that it names
abbrev pub list_by : List Decl → Argument → Option ℕ
list_by ds (number_argument n) = None
list_by ds (field_argument r) = None
list_by ds (parameter_argument n) = None
list_by ds (name_argument i) = list_number ds i.name

-- the field with this number of an instance is saturating
abbrev pub is_saturating_number : List Decl → Name → ℕ → Bool
is_saturating_number ds instance field =
    option_map_or (λ (t : HeaderTypeTree). option_map_or is_saturating (slice_get t.fields field) false) (instance_type ds instance) false
