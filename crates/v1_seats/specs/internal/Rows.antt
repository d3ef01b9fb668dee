-- What is written down of the types of a program.
use Rattle.std.specs.Prelude.{◌≡◌, ℕ, List, [], map, slice_get, slice_index_or, Option, Some, None, IfSome, MatchOption}
use Rattle.std.specs.List.{AllZip}
use Rattle.name_numbers.specs.Names.{find_name}
use Rattle.p416_syntax.specs.Names.{Name}
use Rattle.p416_syntax.specs.Scopes.{Layout, FieldKind, fields_in}
use Rattle.p416_names.specs.declared.kind.Kind.{Kind as CodeKind}
use Rattle.p416_names.specs.SeenKinds.{seen_kind}
use Rattle.v1_core.specs.Seats.{Form, form_of}
use Rattle.v1_layout.specs.Left.{kind_of_field}
use Rattle.v1_seats.specs.declared.rows.Row.{Row}
use Rattle.v1_seats.specs.declared.rows.Place.{Place}
use Rattle.v1_seats.specs.declared.extents.Extent.{Extent}
use Rattle.v1_seats.specs.declared.laying.Laid.{Laid}
use Rattle.v1_seats.specs.Seen.{seen_start}
use Rattle.v1_seats.specs.Extents.{forms_in, Reaches, AreLaid}

abbrev pub called_of_field : FieldKind → Name
called_of_field f = f.called

-- the fields of a type
pub record IsRow (fields : List FieldKind) (r : Row) : Type 0 where
  pub names : r.names ≡ map called_of_field fields
  pub kinds : map seen_kind r.kinds.items ≡ map kind_of_field fields

-- those of the types with these names
abbrev pub AreRows : List Layout → List Name → List Row → Type 0
AreRows types names rows = AllZip (λ name r. IsRow (fields_in types name) r) names rows

abbrev pub form_of_kind : CodeKind → Form
form_of_kind k = form_of (seen_kind k)

abbrev pub HasExtent : List Layout → CodeKind → Extent → Type 0
HasExtent types k x = Reaches types (form_of_kind k) (seen_start x.size) x.depth

-- values of these forms, one after another, are members of a struct
abbrev pub IsLaid : List Layout → List Form → Laid → Type 0
IsLaid types forms l = AreLaid types forms (map seen_start l.starts.items) (seen_start l.all.size) l.all.depth

abbrev pub IsLaidOf : List Layout → Name → Option Laid → Type 0
IsLaidOf types name l = IfSome l (IsLaid types (forms_in types name))

-- structs of the types with these names, those that are laid out
abbrev pub AreStructs : List Layout → List Name → List (Option Laid) → Type 0
AreStructs types names laid = AllZip (IsLaidOf types) names laid

-- types, and the names by which what is written down of them is found
pub record Written : Type 0 where
  pub types : List Layout
  pub names : List Name

-- the name with a number
abbrev pub name_at : Written → ℕ → Name
name_at w number = slice_index_or w.names number []

abbrev pub IsRowAt : Written → ℕ → Row → Type 0
IsRowAt w number r = IsRow (fields_in w.types (name_at w number)) r

-- a field by its place and its kind: the first with a name
pub record IsPlace (fields : List FieldKind) (word : Name) (p : Place) : Type 0 where
  pub number : find_name (map called_of_field fields) word ≡ Some p.number
  pub kind : slice_get (map kind_of_field fields) p.number ≡ Some (seen_kind p.kind)

-- there is no such field, or it is this one
abbrev pub Finds : List FieldKind → Name → Option Place → Type 0
Finds fields word found = MatchOption found (find_name (map called_of_field fields) word ≡ None) (IsPlace fields word)
