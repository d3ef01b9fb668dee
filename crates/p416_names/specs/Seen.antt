-- Which sort of the rules a sort of code is, given the names at the top.
use Rattle.std.specs.Prelude.{List, [], map, Option, Some, None}
use Rattle.p416_syntax.specs.declared.lexeme.Literal16.{Literal16}
use Rattle.p416_syntax.specs.Properties.{actions_of, counters_of}
use Rattle.p416_syntax.specs.Kinds.{Kind, bits}
use Rattle.p416_syntax.specs.Scopes as rule
use Rattle.p416_syntax.specs.Scopes.{Known, type_sort, stack_kind, kind_of_type, handed, plane_name, FieldKind}
use Rattle.p416_syntax.specs.BuiltIn.{standard_layout}
use Rattle.p416_syntax.specs.Declarations.{bit_field, struct_field}
use Rattle.p416_names.specs.SeenKinds.{seen_enumeration, seen_object, seen_kind}
use Rattle.p416_names.specs.declared.sort.Sort.{Sort}
use Rattle.p416_names.specs.declared.sort.Sort.TheVariants as sort_of
use Rattle.p416_names.specs.declared.fields.Fields.{Fields}
use Rattle.p416_names.specs.declared.fields.Fields.TheVariants as fields_of
use Rattle.p416_names.specs.declared.layout.Field.{Field}
use Rattle.p416_names.specs.declared.layout.Field.TheVariants as field_of

-- the types of an action's parameters are looked up at the top
abbrev pub seen_sort : List Known → Sort → rule.Sort
seen_sort top (sort_of.Type k) = rule.a_type (seen_kind k)
seen_sort top (sort_of.Value k can) = rule.a_value (seen_kind k) can
seen_sort top (sort_of.Enumeration e) = rule.an_enumeration (seen_enumeration e)
seen_sort top sort_of.Function = rule.a_function
seen_sort top (sort_of.Object o) = rule.an_object (seen_object o)
seen_sort top (sort_of.Action a) = rule.an_action (plane_name a.now.notes a.now.name) (map (handed top) a.now.parameters)
seen_sort top (sort_of.Table t) = rule.a_table (actions_of t.now.properties) (counters_of t.now.properties)
seen_sort top sort_of.State = rule.a_state
seen_sort top sort_of.Block = rule.a_block
seen_sort top sort_of.Undeclared = rule.undeclared

-- what the values of a type are whose name is declared as this, or of a stack of so many of it
abbrev pub kind_of_named : rule.Sort → Option Literal16 → Kind
kind_of_named sort None = type_sort sort
kind_of_named sort (Some size) = stack_kind size.value (type_sort sort)

-- what a field is
abbrev pub seen_field : List Known → Field → Kind
seen_field top (field_of.Bits f) = bits f.now.width.value
seen_field top (field_of.Typed f) = kind_of_type top f.now.of

-- the fields of a type
abbrev pub seen_fields : List Known → Fields → List FieldKind
seen_fields top (fields_of.Bits fs) = map bit_field fs.now
seen_fields top (fields_of.Typed fs) = map (struct_field top) fs.now
seen_fields top fields_of.Standard = standard_layout.fields
seen_fields top fields_of.Missing = []
