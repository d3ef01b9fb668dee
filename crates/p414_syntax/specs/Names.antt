-- The names that a program declares, sort by sort, and what a name stands for (P4_14 1.0.5, "Summary of P4 BNF"; which
-- sorts are told apart is this project's own). Declarations that are left out by name are in no sort.
use Rattle.std.specs.Prelude.{ℕ, Bool, true, false, ◌||◌, is_some, List, [], ◌∷◌, ◌++◌, Option, Some, None, filter, filter_map, position, slice_get, option_and_then}
use Rattle.std.specs.List.{list_any}
use Rattle.std.specs.Str.{bytes_eq}
use Rattle.p414_syntax.specs.declared.headers.Field.{Field}
use Rattle.p414_syntax.specs.declared.headers.Initial.{Initial}
use Rattle.p414_syntax.specs.declared.syntax.Decl.{Decl}
use Rattle.p414_syntax.specs.declared.syntax.Decl.TheVariants as decl
use Rattle.p414_syntax.specs.declared.syntax.Sort.{Sort}
use Rattle.p414_syntax.specs.declared.syntax.Sort.TheVariants as sort

-- the octets of a name
abbrev pub Name : Type 0
Name = List ℕ

-- the number of a name among these, from 0
abbrev pub find_name : List Name → Name → Option ℕ
find_name names name = position (bytes_eq name) names

-- a name stands among these
abbrev pub has_name : List Name → Name → Bool
has_name names name = list_any (bytes_eq name) names

-- a name stands again among these names, behind those
abbrev pub repeats_behind : List Name → List Name → Bool
repeats_behind before [] = false
repeats_behind before (name ∷ names) = has_name before name || repeats_behind (before ++ name ∷ []) names

-- a name stands twice among these
abbrev pub repeats : List Name → Bool
repeats names = repeats_behind [] names

-- the name that a declaration declares in a sort
abbrev pub name_in : Sort → Decl → Option Name
name_in sort.HeaderType (decl.HeaderType x) = Some x.name
name_in sort.Instance (decl.Header x) = Some x.name
name_in sort.Instance (decl.Metadata x) = Some x.name
name_in sort.Parse (decl.Parser x) = Some x.name
name_in sort.Parse (decl.Control x) = Some x.name
name_in sort.Action (decl.Action x) = Some x.name
name_in sort.Table (decl.Table x) = Some x.name
name_in sort.List (decl.FieldList x) = Some x.name
name_in sort.Calculation (decl.FieldListCalculation x) = Some x.name
name_in sort.Object (decl.Counter x) = Some x.name
name_in sort.Object (decl.Meter x) = Some x.name
name_in sort.Object (decl.Register x) = Some x.name
name_in _ _ = None

abbrev pub is_in : Sort → Decl → Bool
is_in sort d = is_some (name_in sort d)

-- the names of a sort, and its declarations, in the order of the text
abbrev pub names_in : Sort → List Decl → List Name
names_in sort ds = filter_map (name_in sort) ds

abbrev pub declared_in : Sort → List Decl → List Decl
declared_in sort ds = filter (is_in sort) ds

-- the number of a name in its sort, from 0 in the order of the text
abbrev pub number_of : Sort → List Decl → Name → Option ℕ
number_of sort ds name = find_name (names_in sort ds) name

-- the declaration with this number in its sort
abbrev pub numbered : Sort → List Decl → ℕ → Option Decl
numbered sort ds i = slice_get (declared_in sort ds) i

-- the declaration of a name in a sort
abbrev pub declaration_of : Sort → List Decl → Name → Option Decl
declaration_of sort ds name = option_and_then (numbered sort ds) (number_of sort ds name)

-- the sort has the name
abbrev pub is_declared : Sort → List Decl → Name → Bool
is_declared sort ds name = is_some (number_of sort ds name)

-- a parser state, or a control, of this name
abbrev pub is_state : Option Decl → Bool
is_state (Some (decl.Parser x)) = true
is_state _ = false

abbrev pub is_control : Option Decl → Bool
is_control (Some (decl.Control x)) = true
is_control _ = false

-- the names of fields and of initial values
abbrev pub field_name : Field → Name
field_name f = f.name

abbrev pub initial_name : Initial → Name
initial_name i = i.field
