-- That a kind tells of which form a value is: what headers have for fields are bits, in the types that names and members are of
-- (P4_16 1.2, "Header types", "P4 data types").
use Rattle.std.specs.Prelude.{◌≡◌, ◌⊎◌, List, [], ◌∷◌}
use Rattle.p416_syntax.specs.Names.{Name}
use Rattle.p416_syntax.specs.Kinds.{Kind, bits, header, stack, enumeration, one_of, table, object, unknown}
use Rattle.p416_syntax.specs.Scopes.{Layout, FieldKind, fields_in, Sort, a_type, a_value, Scope, sort_of}
use Rattle.p416_syntax.specs.Expressions.{field_kind_in, known_kind}
use Rattle.v1_core.specs.Seats.{Form, form_of}

abbrev pub IsBits : Kind → Type 0
IsBits (bits width) = Unit {0}
IsBits k = ⊥

abbrev pub FieldsBits : List FieldKind → Type 0
FieldsBits [] = Unit {0}
FieldsBits (f ∷ fields) = IsBits f.kind × FieldsBits fields

-- the headers of this kind have bits for fields
abbrev pub KindFine : List Layout → Kind → Type 0
KindFine types (header type) = FieldsBits (fields_in types type)
KindFine types (stack type size) = FieldsBits (fields_in types type)
KindFine types k = Unit {0}

abbrev pub SortFine : List Layout → Sort → Type 0
SortFine types (a_type k) = KindFine types k
SortFine types (a_value k can) = KindFine types k
SortFine types sort = Unit {0}

-- so do those of the members of all types, and of what names are
pub record Fine (s : Scope) : Type 0 where
  pub members : (type word : Name) → KindFine s.layouts (known_kind (field_kind_in (fields_in s.layouts type) word))
  pub names : (text : Name) → SortFine s.layouts (sort_of s text)

-- the name of an enumeration, a member of one, a table, an object, and what is unknown
abbrev pub IsUnformed : Kind → Type 0
IsUnformed (enumeration of) = Unit {0}
IsUnformed (one_of of) = Unit {0}
IsUnformed table = Unit {0}
IsUnformed (object of) = Unit {0}
IsUnformed unknown = Unit {0}
IsUnformed k = ⊥

-- what is of this kind stands at a seat of its form; of what is no value nothing is said
abbrev pub FormIs : List Layout → Kind → Form → Type 0
FormIs types k form = IsUnformed k ⊎ ((form ≡ form_of k) × KindFine types k)
