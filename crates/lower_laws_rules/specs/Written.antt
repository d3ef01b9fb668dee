-- The declarations that the lowering writes, from names, widths and parts (this project's own; P4_16 1.2, "Header
-- types", "Header stacks", "Derived types", "Actions", "Tables", "Control-plane API annotations"; `v1model.p4`,
-- `field_list`, `direct_counter`).
use Rattle.std.specs.Prelude.{ℕ, List, [], ◌∷◌, ◌++◌, map, Option, Some, None}
use Rattle.p416_syntax.specs.declared.lexeme.Literal16.{Literal16}
use Rattle.p416_syntax.specs.declared.parts.Note.{Note}
use Rattle.p416_syntax.specs.declared.parts.Note.TheVariants as note
use Rattle.p416_syntax.specs.declared.parts.Direction.{Direction}
use Rattle.p416_syntax.specs.declared.parts.Param.{Param}
use Rattle.p416_syntax.specs.declared.parts.Type16.TheVariants.{Bit, Named}
use Rattle.p416_syntax.specs.declared.parts.BitField.{BitField}
use Rattle.p416_syntax.specs.declared.parts.Header16.{Header16}
use Rattle.p416_syntax.specs.declared.parts.StructField.{StructField}
use Rattle.p416_syntax.specs.declared.parts.Struct16.{Struct16}
use Rattle.p416_syntax.specs.declared.parsers.Var.{Var}
use Rattle.p416_syntax.specs.declared.controls.Action16.{Action16}
use Rattle.p416_syntax.specs.declared.controls.ActionName.{ActionName}
use Rattle.p416_syntax.specs.declared.controls.ActionName.TheVariants as action_name
use Rattle.p416_syntax.specs.declared.controls.TableKey.{TableKey}
use Rattle.p416_syntax.specs.declared.controls.Property.{Property}
use Rattle.p416_syntax.specs.declared.controls.Property.TheVariants as property
use Rattle.p416_syntax.specs.declared.controls.Table16.{Table16}
use Rattle.p416_syntax.specs.Tree.{Exp16, Stmt16, literal, no_arguments, argument}
use Rattle.p416_syntax.specs.Names.{Name}
use Rattle.agreement_of_meanings.specs.Shown.{NamedField}
use Rattle.lower_laws_base.specs.Mirror.{plain, sized}

-- types

-- a field of a header, of so many bits
abbrev pub bit_field16 : NamedField → BitField
bit_field16 f = record { width = plain f.width; name = f.called }

-- a header ("Header types")
abbrev pub header16 : Name → List NamedField → Header16
header16 called fields = record { name = called; fields = map bit_field16 fields }

-- the marks of a field of metadata: the numbers of the lists that preserve it
abbrev pub marks16 : List ℕ → List Note
marks16 [] = []
marks16 (n ∷ ns) = note.FieldList (map plain (n ∷ ns)) ∷ []

-- a field of metadata with its marks
pub record MarkedField : Type 0 where
  pub field : NamedField
  pub marks : List ℕ

-- a field of metadata with its annotations, in its struct
abbrev pub marked_field16 : MarkedField → StructField
marked_field16 f = record { notes = marks16 f.marks; of = Bit (plain f.field.width); name = f.field.called }

-- the struct of metadata ("Derived types")
abbrev pub metadata16 : Name → List MarkedField → Struct16
metadata16 called fields = record { name = called; fields = map marked_field16 fields }

-- a member of a type with this name, or a stack of so many
pub record TypedField : Type 0 where
  pub called : Name
  pub type : Name
  pub size : Option ℕ

-- the number of elements, where it is a stack
abbrev pub size16 : Option ℕ → Option Literal16
size16 None = None
size16 (Some n) = Some (plain n)

-- a member of a type, in its struct
abbrev pub typed_field16 : TypedField → StructField
typed_field16 f = record { notes = []; of = Named f.type (size16 f.size); name = f.called }

-- a struct of such members ("Derived types")
abbrev pub struct16 : Name → List TypedField → Struct16
struct16 called fields = record { name = called; fields = map typed_field16 fields }

-- blocks and actions

-- a parameter of a block
abbrev pub block_param : Option Direction → Name → Name → Param
block_param direction type called = record { direction = direction; of = Named type None; name = called }

-- a parameter of an action: bits, which the control plane gives ("Actions")
abbrev pub action_param : NamedField → Param
action_param f = record { direction = None; of = Bit (plain f.width); name = f.called }

-- an action, under its control-plane name ("Actions")
abbrev pub action16 : Name → Name → List NamedField → Stmt16 → Action16
action16 plane called fs body = record { notes = note.Name plane ∷ []; name = called; parameters = map action_param fs; body = body }

-- a variable of a struct, without an initial value ("Variable declarations")
abbrev pub whole_var : Name → Name → Var
whole_var type called = record { of = Named type None; name = called; initial = None }

-- tables

-- the annotation `@name` ("Control-plane API annotations")
abbrev pub named : Name → List Note
named text = note.Name text ∷ []

-- values as literals of these widths, as arguments behind others
abbrev pub literals16 : Exp16 → List ℕ → List ℕ → Exp16
literals16 before [] values = before
literals16 before widths [] = before
literals16 before (w ∷ widths) (v ∷ values) = literals16 (argument before (literal (sized w v))) widths values

-- a default action with its arguments
pub record Default : Type 0 where
  pub action : Name
  pub widths : List ℕ
  pub values : List ℕ

-- a table, by what is written for it
pub record TableText : Type 0 where
  pub plane : Name
  pub called : Name
  pub keys : List TableKey
  pub actions : List Name
  pub size : Option ℕ
  pub counters : Option Name
  pub default : Option Default

-- the property `key`, where there is a key ("Tables")
abbrev pub key_property : List TableKey → List Property
key_property [] = []
key_property (k ∷ keys) = property.Key (k ∷ keys) ∷ []

-- the property `size`, if there is one
abbrev pub size_property : Option ℕ → List Property
size_property None = []
size_property (Some n) = property.Size (plain n) ∷ []

-- the property `counters`, if there is one (`v1model.p4`, `direct_counter`)
abbrev pub counters_property : Option Name → List Property
counters_property None = []
counters_property (Some text) = property.Counters text ∷ []

-- the property `default_action`, if there is one
abbrev pub default_property : Option Default → List Property
default_property None = []
default_property (Some d) = property.DefaultAction (action_name.Declared d.action) (literals16 no_arguments d.widths d.values) ∷ []

-- an action as a table lists it
abbrev pub declared_action : Name → ActionName
declared_action text = action_name.Declared text

-- the table as a whole ("Tables")
abbrev pub table16 : TableText → Table16
table16 t = record {
  notes = named t.plane;
  name = t.called;
  properties = key_property t.keys ++ property.Actions (map declared_action t.actions) ∷ (size_property t.size ++ (counters_property t.counters ++ default_property t.default));
}
