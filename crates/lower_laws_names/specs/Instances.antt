-- How the instances of a program are shown in P4_16 (this project's own; P4_14 1.0.5, "Header Type Declarations",
-- "Header and Metadata Instances"; P4_16 1.2, "Header types", "Header stacks", "Derived types").
use Rattle.std.specs.Prelude.{◌≡◌, ℕ, ◌+◌, ◌^◌, ◌≤◌, false, List, [], ◌∷◌, length, filter_map, Option, Some, None}
use Rattle.std.specs.Option.{option_map_or}
use Rattle.p414_syntax.specs.declared.lexeme.Literal.{Literal}
use Rattle.p414_syntax.specs.declared.headers.Field.{Field}
use Rattle.p414_syntax.specs.declared.syntax.Decl.{Decl}
use Rattle.p414_syntax.specs.declared.syntax.Decl.TheVariants as decl
use Rattle.p414_syntax.specs.declared.syntax.Sort.TheVariants as sort
use Rattle.p414_syntax.specs.Views.{HeaderTypeTree}
use Rattle.p414_syntax.specs.Names.{Name}
use Rattle.p414_syntax.specs.Twice.{declares_twice}
use Rattle.p414_syntax.specs.Fields.{type_of, field_bits}
use Rattle.agreement_of_meanings.specs.Shown.{NamedField, Shown, as_header, as_stack, as_metadata}
use Rattle.lower_laws_names.specs.Made.{called}
use Rattle.lower_laws_names.specs.NewNames.{new_name, field_thing}

-- fields under their new names, of which the first has this number
abbrev pub named_from : ℕ → List Field → List NamedField
named_from number [] = []
named_from number (f ∷ fields) =
    record { called = called (field_thing number f.name); width = field_bits f } ∷ named_from (number + 1) fields

-- the fields of a header type
abbrev pub type_fields : HeaderTypeTree → List NamedField
type_fields t = named_from 0 t.fields

-- the fields of the header type of this name
abbrev pub named_fields : List Decl → Name → List NamedField
named_fields ds type = option_map_or type_fields (type_of ds type) []

-- a header, or a stack where its size is written
abbrev pub shown_header : List Decl → Name → Name → Option Literal → Shown
shown_header ds type name None = as_header (new_name ds sort.Instance name) (named_fields ds type)
shown_header ds type name (Some size) = as_stack (new_name ds sort.Instance name) (named_fields ds type)

-- how a declared instance is shown
abbrev pub shown_in : List Decl → Decl → Option Shown
shown_in ds (decl.Header x) = Some (shown_header ds x.header_type x.name x.size)
shown_in ds (decl.Metadata x) = Some (as_metadata (new_name ds sort.Instance x.name) (named_fields ds x.header_type))
shown_in ds _ = None

-- the instances in the order of declaration
abbrev pub shown_instances : List Decl → List Shown
shown_instances ds = filter_map (shown_in ds) ds

-- a program without a name twice, and with no more declarations and fields than have numbers
pub record HasNames (ds : List Decl) : Type 0 where
  pub once : declares_twice ds ≡ false
  pub few : length ds ≤ 2 ^ 32
  pub few_fields : (type : Name) (t : HeaderTypeTree) → type_of ds type ≡ Some t → length t.fields ≤ 2 ^ 32
