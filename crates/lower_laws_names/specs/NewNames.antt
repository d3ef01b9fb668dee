-- The new names of a program (this project's own; the sorts of names are those of P4_14 1.0.5, "Summary of P4 BNF", and
-- reaches those of P4_16 1.2, "Name resolution"). Header types, objects, tables and actions stand in each other's
-- reach, so that of these only the first sort that has a name keeps it. Members and states stand by themselves.
use Rattle.std.specs.Prelude.{ℕ, ◌+◌, Bool, true, false, not, ◌&&◌, List, [], ◌∷◌, ◌++◌, map, codes, unwrap_or}
use Rattle.std.specs.List.{list_any}
use Rattle.std.specs.Str.{bytes_eq}
use Rattle.p414_syntax.specs.declared.headers.Field.{Field}
use Rattle.p414_syntax.specs.declared.syntax.Decl.{Decl}
use Rattle.p414_syntax.specs.declared.syntax.Decl.TheVariants as decl
use Rattle.p414_syntax.specs.declared.syntax.Sort.{Sort}
use Rattle.p414_syntax.specs.declared.syntax.Sort.TheVariants as sort
use Rattle.p414_syntax.specs.Attributes.{initials_of}
use Rattle.p414_syntax.specs.Names.{Name, is_declared, names_in, number_of, field_name}
use Rattle.lower_laws_names.specs.Made.{Thing, called, can_stay, can_stay_outside}

-- letters

-- `h`, `i`, `s`, `a`, `t`, `o`; field lists and calculations, with `l` and `k`, have no new name
abbrev pub letter_of : Sort → ℕ
letter_of sort.HeaderType = 104
letter_of sort.Instance = 105
letter_of sort.Parse = 115
letter_of sort.Action = 97
letter_of sort.Table = 116
letter_of sort.Object = 111
letter_of sort.List = 108
letter_of sort.Calculation = 107

-- `f`: a field of a header type
abbrev pub field_letter : ℕ
field_letter = 102

-- `p`: a parameter of an action
abbrev pub parameter_letter : ℕ
parameter_letter = 112

-- `m`: the struct of a metadata instance
abbrev pub struct_letter : ℕ
struct_letter = 109

-- `c`: a copy of an action
abbrev pub copy_letter : ℕ
copy_letter = 99

-- `v`: a variable of an action
abbrev pub variable_letter : ℕ
variable_letter = 118

-- `w`: a second variable of an action
abbrev pub second_letter : ℕ
second_letter = 119

-- the names of a sort

-- the sorts that keep a name before this one does
abbrev pub sorts_before : Sort → List Sort
sorts_before sort.Object = sort.HeaderType ∷ []
sorts_before sort.Table = sort.HeaderType ∷ sort.Object ∷ []
sorts_before sort.Action = sort.HeaderType ∷ sort.Object ∷ sort.Table ∷ []
sorts_before _ = []

-- a sort of the program has the name
abbrev pub has_sort : List Decl → Name → Sort → Bool
has_sort ds name s = is_declared s ds name

-- a sort that keeps a name before this one does has the name
abbrev pub is_declared_before : List Decl → Sort → Name → Bool
is_declared_before ds s name = list_any (has_sort ds name) (sorts_before s)

-- a metadata instance has initial values, so that a state of its own stands before all others, and is called `start`
abbrev pub gives_initials : Decl → Bool
gives_initials (decl.Metadata x) = of (initials_of x.initials) where
  of : {A : Type 0} → List A → Bool
  of [] = false
  of (x ∷ xs) = true
gives_initials _ = false

-- a name that the state of initial values takes: `start`
abbrev pub is_displaced : List Decl → Name → Bool
is_displaced ds name = bytes_eq name (codes "start") && list_any gives_initials ds

-- whether a name of this sort stays
abbrev pub stays : List Decl → Sort → Name → Bool
stays ds sort.Instance name = can_stay name
stays ds sort.Parse name = can_stay_outside name && not (is_displaced ds name)
stays ds s name = can_stay_outside name && not (is_declared_before ds s name)

-- the thing that a name of a sort stands for: its letter, its number and whether the name stays
abbrev pub thing : List Decl → Sort → Name → Thing
thing ds s name = record {
  letter = letter_of s;
  number = unwrap_or (number_of s ds name) 0;
  name = name;
  stays = stays ds s name;
}

-- the new name of what has this name in a sort
abbrev pub new_name : List Decl → Sort → Name → Name
new_name ds s name = called (thing ds s name)

-- fields, parameters and made things, by their number from 0

-- things in order, of which the first has this number
abbrev pub numbered_from : (ℕ → Name → Thing) → ℕ → List Name → List Thing
numbered_from of number [] = []
numbered_from of number (name ∷ names) = of number name ∷ numbered_from of (number + 1) names

-- things in order, numbered from 0
abbrev pub numbered : (ℕ → Name → Thing) → List Name → List Thing
numbered of names = numbered_from of 0 names

-- a field of a header type, as a thing to be named
abbrev pub field_thing : ℕ → Name → Thing
field_thing number name = record { letter = field_letter; number = number; name = name; stays = can_stay name }

-- the new names of the fields of a header type
abbrev pub new_fields : List Field → List Name
new_fields fields = map called (numbered field_thing (map field_name fields))

-- A parameter keeps no name of an object, which it would hide.
abbrev pub parameter_stays : List Decl → Name → Bool
parameter_stays ds name = can_stay_outside name && not (is_declared sort.Object ds name)

-- a parameter of an action, as a thing to be named
abbrev pub parameter_thing : List Decl → ℕ → Name → Thing
parameter_thing ds number name = record {
  letter = parameter_letter;
  number = number;
  name = name;
  stays = parameter_stays ds name;
}

-- the new names of the parameters of an action
abbrev pub new_parameters : List Decl → List Name → List Name
new_parameters ds parameters = map called (numbered (parameter_thing ds) parameters)

-- made things

-- what has no name of its own in P4_14, and so one that is made
abbrev pub made_thing : ℕ → ℕ → Name → Thing
made_thing letter number name = record { letter = letter; number = number; name = name; stays = false }

-- the struct of the metadata instance with this number among them, by the name of its header type
abbrev pub struct_thing : ℕ → Name → Thing
struct_thing = made_thing struct_letter

-- the copy of an action with this number among the copies
abbrev pub copy_thing : ℕ → Name → Thing
copy_thing = made_thing copy_letter

-- the variable of the primitive with this number in its action
abbrev pub variable_thing : ℕ → Thing
variable_thing number = made_thing variable_letter number (codes "got")

-- the second variable of the primitive with this number
abbrev pub second_thing : ℕ → Thing
second_thing number = made_thing second_letter number (codes "cut")

-- the things of a sort, in the order of declaration
abbrev pub things_of : List Decl → Sort → List Thing
things_of ds s = map (thing ds s) (names_in s ds)
