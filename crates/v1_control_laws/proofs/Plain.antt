-- In the scopes of a program names and fields are of such kinds as types name.
use Rattle.std.proofs.Common.{ℕ, true, Option, Some, None, List, [], ◌∷◌, ◌++◌, map, flat_map, bytes_eq}
use Rattle.p416_syntax.specs.declared.parts.Type16.{Type16}
use Rattle.p416_syntax.specs.declared.parts.Type16.TheVariants as type16
use Rattle.p416_syntax.specs.declared.parts.Param.{Param}
use Rattle.p416_syntax.specs.declared.parts.BitField.{BitField}
use Rattle.p416_syntax.specs.declared.parts.StructField.{StructField}
use Rattle.p416_syntax.specs.declared.controls.Instance.{Instance}
use Rattle.p416_syntax.specs.declared.controls.Instance.TheVariants as instance
use Rattle.p416_syntax.specs.declared.controls.Action16.{Action16}
use Rattle.p416_syntax.specs.declared.controls.Local.{Local}
use Rattle.p416_syntax.specs.declared.controls.Local.TheVariants as local
use Rattle.p416_syntax.specs.declared.controls.Control16.{Control16}
use Rattle.p416_syntax.specs.declared.program.Decl16.{Decl16}
use Rattle.p416_syntax.specs.declared.program.Decl16.TheVariants as decl
use Rattle.p416_syntax.specs.Tree.{Stmt16, no_statements, then, block, empty, var, var_is, assign, expression, if_then, if_else, switch, no_cases, case_of}
use Rattle.p416_syntax.specs.Names.{Name}
use Rattle.p416_syntax.specs.BuiltIn.{built_in, standard_layout}
use Rattle.p416_syntax.specs.Kinds.{Kind, bits, unsized, boolean, error_code, header, stack, struct, packet_in, packet_out, errors, enumeration, one_of, table, applied, object, items, nothing, unknown}
use Rattle.p416_syntax.specs.Scopes.{Layout, FieldKind, fields_in, Sort, a_type, a_value, an_enumeration, a_function, an_object, an_action, a_table, a_state, a_block, undeclared, Known, known, sort_in, Scope, sort_of, type_sort, stack_kind, kind_of_type, known_parameter}
use Rattle.p416_syntax.specs.Expressions.{field_kind_in, known_kind}
use Rattle.p416_syntax.specs.Statements.{with_variable, behind}
use Rattle.p416_syntax.specs.Declarations.{instance_sort, top_name, top_names, bit_field, struct_field, layout_in, layouts_of, top_scope, known_local, control_names, control_scope, action_scope}
use Rattle.v1_call_laws.specs.Calling.{IsPlainKind, IsNamedKind, SortPlain, NamesPlain}
use Rattle.v1_control_laws.proofs.Values.{either}
use Rattle.v1_control_laws.specs.Plain.{KnownPlain, IsPlainScope}
use Rattle.v1_control_laws.specs.TableLaws.{ScopesPlain}

-- types

named_plain : (k : Kind) → IsNamedKind k → IsPlainKind k
named_plain (bits width) h = absurd h
named_plain unsized h = absurd h
named_plain boolean h = absurd h
named_plain error_code h = absurd h
named_plain (header type) h = tt
named_plain (stack type size) h = absurd h
named_plain (struct type) h = tt
named_plain packet_in h = tt
named_plain packet_out h = tt
named_plain errors h = absurd h
named_plain (enumeration enum) h = absurd h
named_plain (one_of enum) h = absurd h
named_plain table h = absurd h
named_plain applied h = absurd h
named_plain (object obj) h = absurd h
named_plain items h = absurd h
named_plain nothing h = absurd h
named_plain unknown h = tt

type_plain : (x : Sort) → KnownPlain x → IsPlainKind (type_sort x)
type_plain (a_type k) h = named_plain k h
type_plain (a_value k can) h = tt
type_plain (an_enumeration enum) h = tt
type_plain a_function h = tt
type_plain (an_object obj) h = tt
type_plain (an_action plane hs) h = tt
type_plain (a_table actions counters) h = tt
type_plain a_state h = tt
type_plain a_block h = tt
type_plain undeclared h = tt

sort_plain : (x : Sort) → KnownPlain x → SortPlain x
sort_plain (a_type k) h = h
sort_plain (a_value k can) h = h
sort_plain (an_enumeration enum) h = tt
sort_plain a_function h = tt
sort_plain (an_object obj) h = tt
sort_plain (an_action plane hs) h = tt
sort_plain (a_table actions counters) h = tt
sort_plain a_state h = tt
sort_plain a_block h = tt
sort_plain undeclared h = tt

stack_plain : (extent : ℕ) (k : Kind) → IsPlainKind (stack_kind extent k)
stack_plain extent (bits width) = tt
stack_plain extent unsized = tt
stack_plain extent boolean = tt
stack_plain extent error_code = tt
stack_plain extent (header type) = tt
stack_plain extent (stack type size) = tt
stack_plain extent (struct type) = tt
stack_plain extent packet_in = tt
stack_plain extent packet_out = tt
stack_plain extent errors = tt
stack_plain extent (enumeration enum) = tt
stack_plain extent (one_of enum) = tt
stack_plain extent table = tt
stack_plain extent applied = tt
stack_plain extent (object obj) = tt
stack_plain extent items = tt
stack_plain extent nothing = tt
stack_plain extent unknown = tt

abbrev AllPlain : List Known → Type 0
AllPlain names = (text : Name) → KnownPlain (sort_in names text)

of_type : (names : List Known) → AllPlain names → (t : Type16) → IsPlainKind (kind_of_type names t)
of_type names all (type16.Bit w) = tt
of_type names all type16.Bool = tt
of_type names all (type16.Named text None) = type_plain (sort_in names text) (all text)
of_type names all (type16.Named text (Some size)) = stack_plain size.value (type_sort (sort_in names text))

abbrev EachPlain : List Known → Type 0
EachPlain [] = Unit {0}
EachPlain (k ∷ ks) = KnownPlain k.sort × EachPlain ks

in_front : (ks names : List Known) → EachPlain ks → AllPlain names → AllPlain (ks ++ names)
in_front [] names h all text = all text
in_front (k ∷ ks) names h all text = either KnownPlain (bytes_eq k.called text) k.sort (sort_in (ks ++ names) text) h.0 (in_front ks names h.1 all text)

nothing_known : AllPlain []
nothing_known text = tt

both_plain : (ks ls : List Known) → EachPlain ks → EachPlain ls → EachPlain (ks ++ ls)
both_plain [] ls h g = g
both_plain (k ∷ ks) ls h g = (h.0, both_plain ks ls h.1 g)

-- the top

instance_plain : (i : Instance) → KnownPlain (instance_sort i)
instance_plain (instance.Counter size m called) = tt
instance_plain (instance.DirectCounter m called) = tt
instance_plain (instance.Register width size called) = tt
instance_plain (instance.Meter size m called) = tt

each_top : (ds : List Decl16) → EachPlain (map top_name ds ++ built_in)
each_top [] = (tt, (tt, (tt, (tt, (tt, (tt, (tt, (tt, (tt, (tt, (tt, (tt, (tt, (tt, (tt, (tt, tt))))))))))))))))
each_top (decl.Header h ∷ ds) = (tt, each_top ds)
each_top (decl.Struct h ∷ ds) = (tt, each_top ds)
each_top (decl.Instance notes i ∷ ds) = (instance_plain i, each_top ds)
each_top (decl.Parser p ∷ ds) = (tt, each_top ds)
each_top (decl.Control c ∷ ds) = (tt, each_top ds)

found_plain : (ks : List Known) → EachPlain ks → AllPlain ks
found_plain [] h text = tt
found_plain (k ∷ ks) h text = either KnownPlain (bytes_eq k.called text) k.sort (sort_in ks text) h.0 (found_plain ks h.1 text)

tops_plain : (ds : List Decl16) → AllPlain (top_names ds)
tops_plain ds = found_plain (top_names ds) (each_top ds)

-- members

abbrev FieldsPlain : List FieldKind → Type 0
FieldsPlain [] = Unit {0}
FieldsPlain (f ∷ fields) = IsPlainKind f.kind × FieldsPlain fields

abbrev LayoutsPlain : List Layout → Type 0
LayoutsPlain [] = Unit {0}
LayoutsPlain (l ∷ layouts) = FieldsPlain l.fields × LayoutsPlain layouts

field_plain : (fields : List FieldKind) (word : Name) → FieldsPlain fields → IsPlainKind (known_kind (field_kind_in fields word))
field_plain [] word h = tt
field_plain (f ∷ fields) word h = either (λ (o : Option Kind). IsPlainKind (known_kind o)) (bytes_eq f.called word) (Some f.kind) (field_kind_in fields word) h.0 (field_plain fields word h.1)

fields_plain : (layouts : List Layout) (type : Name) → LayoutsPlain layouts → FieldsPlain (fields_in layouts type)
fields_plain [] type h = tt
fields_plain (l ∷ layouts) type h = either FieldsPlain (bytes_eq l.called type) l.fields (fields_in layouts type) h.0 (fields_plain layouts type h.1)

header_fields : (fields : List BitField) → FieldsPlain (map bit_field fields)
header_fields [] = tt
header_fields (f ∷ fields) = (tt, header_fields fields)

struct_fields : (names : List Known) → AllPlain names → (fields : List StructField) → FieldsPlain (map (struct_field names) fields)
struct_fields names all [] = tt
struct_fields names all (f ∷ fields) = (of_type names all f.of, struct_fields names all fields)

all_layouts : (names : List Known) → AllPlain names → (last : List Layout) → LayoutsPlain last → (ds : List Decl16) → LayoutsPlain (flat_map (layout_in names) ds ++ last)
all_layouts names all last h [] = h
all_layouts names all last h (decl.Header x ∷ ds) = (header_fields x.fields, all_layouts names all last h ds)
all_layouts names all last h (decl.Struct x ∷ ds) = (struct_fields names all x.fields, all_layouts names all last h ds)
all_layouts names all last h (decl.Instance notes i ∷ ds) = all_layouts names all last h ds
all_layouts names all last h (decl.Parser p ∷ ds) = all_layouts names all last h ds
all_layouts names all last h (decl.Control c ∷ ds) = all_layouts names all last h ds

members_plain : (ds : List Decl16) (type word : Name) → IsPlainKind (known_kind (field_kind_in (fields_in (layouts_of ds) type) word))
members_plain ds type word = field_plain (fields_in (layouts_of ds) type) word (fields_plain (layouts_of ds) type (all_layouts (top_names ds) (tops_plain ds) (standard_layout ∷ []) ((tt, (tt, (tt, (tt, (tt, (tt, (tt, tt))))))), tt) ds))

-- controls and actions

parameters_plain : (names : List Known) → AllPlain names → (ps : List Param) → EachPlain (map (known_parameter names) ps)
parameters_plain names all [] = tt
parameters_plain names all (p ∷ ps) = (of_type names all p.of, parameters_plain names all ps)

locals_plain : (names : List Known) → AllPlain names → (ls : List Local) → EachPlain (map (known_local names) ls)
locals_plain names all [] = tt
locals_plain names all (local.Instance notes i ∷ ls) = (instance_plain i, locals_plain names all ls)
locals_plain names all (local.Var v ∷ ls) = (of_type names all v.of, locals_plain names all ls)
locals_plain names all (local.Action a ∷ ls) = (tt, locals_plain names all ls)
locals_plain names all (local.Table t ∷ ls) = (tt, locals_plain names all ls)

top_plain : (ds : List Decl16) (positions : List ℕ) → IsPlainScope (top_scope ds positions)
top_plain ds positions = record { names = tops_plain ds; members = members_plain ds }

control_plain : (s : Scope) (c : Control16) → IsPlainScope s → IsPlainScope (control_scope s c)
control_plain s c h = record {
  names = in_front (control_names s.names c) s.names (both_plain (map (known_parameter s.names) c.parameters) (map (known_local s.names) c.locals) (parameters_plain s.names h.names c.parameters) (locals_plain s.names h.names c.locals)) h.names;
  members = h.members;
}

action_plain : (s : Scope) (a : Action16) → IsPlainScope s → IsPlainScope (action_scope s a)
action_plain s a h = record {
  names = in_front (map (known_parameter s.names) a.parameters) s.names (parameters_plain s.names h.names a.parameters) h.names;
  members = h.members;
}

variable_plain : (s : Scope) (t : Type16) (called : Name) → IsPlainScope s → IsPlainScope (with_variable t called s)
variable_plain s t called h = record {
  names = in_front (known (a_value (kind_of_type s.names t) true) called ∷ []) s.names (of_type s.names h.names t, tt) h.names;
  members = h.members;
}

behind_plain : (x : Stmt16) (s : Scope) → IsPlainScope s → IsPlainScope (behind x s)
behind_plain no_statements s h = h
behind_plain ((then) before last) s h = behind_plain last (behind before s) (behind_plain before s h)
behind_plain (block body) s h = h
behind_plain empty s h = h
behind_plain (var t called) s h = variable_plain s t called h
behind_plain (var_is t called e) s h = variable_plain s t called h
behind_plain (assign f e) s h = h
behind_plain (expression e) s h = h
behind_plain (if_then c positive) s h = h
behind_plain (if_else c positive negative) s h = h
behind_plain (switch text cases) s h = h
behind_plain no_cases s h = h
behind_plain (case_of before l body) s h = h

plain_names : (s : Scope) → IsPlainScope s → NamesPlain s
plain_names s h = record { names = λ text. sort_plain (sort_of s text) (h.names text); members = h.members }

pub scopes_plain : ScopesPlain
scopes_plain = (top_plain, control_plain, action_plain, behind_plain, plain_names)
