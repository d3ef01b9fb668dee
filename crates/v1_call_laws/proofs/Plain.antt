-- In every scope of a program names and fields are of such kinds as types name.
use Rattle.std.proofs.Common.{ℕ, Bool, true, cond, Some, None, List, [], ◌∷◌, ◌++◌, map}
use Rattle.std.specs.Prelude.{flat_map}
use Rattle.std.specs.Str.{bytes_eq}
use Rattle.p416_syntax.specs.declared.parts.Type16.{Type16}
use Rattle.p416_syntax.specs.declared.parts.Type16.TheVariants as type16
use Rattle.p416_syntax.specs.declared.parts.Param.{Param}
use Rattle.p416_syntax.specs.declared.parts.BitField.{BitField}
use Rattle.p416_syntax.specs.declared.parts.StructField.{StructField}
use Rattle.p416_syntax.specs.declared.parsers.Var.{Var}
use Rattle.p416_syntax.specs.declared.parsers.State.{State}
use Rattle.p416_syntax.specs.declared.parsers.Parser16.{Parser16}
use Rattle.p416_syntax.specs.declared.controls.Instance.{Instance}
use Rattle.p416_syntax.specs.declared.controls.Instance.TheVariants as instance
use Rattle.p416_syntax.specs.declared.controls.Action16.{Action16}
use Rattle.p416_syntax.specs.declared.controls.Local.{Local}
use Rattle.p416_syntax.specs.declared.controls.Local.TheVariants as local
use Rattle.p416_syntax.specs.declared.controls.Control16.{Control16}
use Rattle.p416_syntax.specs.declared.program.Decl16.{Decl16}
use Rattle.p416_syntax.specs.declared.program.Decl16.TheVariants as decl
use Rattle.p416_syntax.specs.Tree.{no_statements, then, block, empty, var, var_is, assign, expression, if_then, if_else, switch, no_cases, case_of}
use Rattle.p416_syntax.specs.Names.{Name}
use Rattle.p416_syntax.specs.Kinds.{Kind, bits, unsized, boolean, error_code, header, stack, struct, packet_in, packet_out, errors, enumeration, one_of, table, applied, object, items, nothing, unknown}
use Rattle.p416_syntax.specs.Scopes.{Layout, FieldKind, fields_in, Sort, a_type, a_value, an_enumeration, a_function, an_object, an_action, a_table, a_state, a_block, undeclared, Known, known, sort_in, Scope, type_sort, stack_kind, kind_of_type, known_parameter}
use Rattle.p416_syntax.specs.BuiltIn.{built_in, standard_layout}
use Rattle.p416_syntax.specs.Expressions.{field_kind_in, known_kind}
use Rattle.p416_syntax.specs.Statements.{with_variable, behind}
use Rattle.p416_syntax.specs.Declarations.{instance_sort, top_name, top_names, bit_field, struct_field, layout_in, layouts_of, top_scope, known_var, known_state, parser_names, parser_scope, action_scope, known_local, control_names, control_scope}
use Rattle.v1_core.proofs.Reading.{by_truth}
use Rattle.v1_call_laws.specs.Calling.{IsPlainKind, IsNamedKind, SortPlain, NamesPlain}
use Rattle.v1_call_laws.specs.Whole.{ScopesPlain, ScopesStayPlain}

-- kinds of types

of_sort : (x : Sort) → SortPlain x → IsPlainKind (type_sort x)
of_sort (a_type k) h = by k h where
  by : (j : Kind) → IsNamedKind j → IsPlainKind j
  by (bits width) g = absurd g
  by unsized g = absurd g
  by boolean g = absurd g
  by error_code g = absurd g
  by (header type) g = tt
  by (stack type size) g = absurd g
  by (struct type) g = tt
  by packet_in g = tt
  by packet_out g = tt
  by errors g = absurd g
  by (enumeration enum) g = absurd g
  by (one_of enum) g = absurd g
  by table g = absurd g
  by applied g = absurd g
  by (object obj) g = absurd g
  by items g = absurd g
  by nothing g = absurd g
  by unknown g = tt
of_sort (a_value k can) h = tt
of_sort (an_enumeration enum) h = tt
of_sort a_function h = tt
of_sort (an_object obj) h = tt
of_sort (an_action plane parameters) h = tt
of_sort (a_table actions counters) h = tt
of_sort a_state h = tt
of_sort a_block h = tt
of_sort undeclared h = tt

of_stack : (size : ℕ) (k : Kind) → IsPlainKind (stack_kind size k)
of_stack size (bits width) = tt
of_stack size unsized = tt
of_stack size boolean = tt
of_stack size error_code = tt
of_stack size (header type) = tt
of_stack size (stack type many) = tt
of_stack size (struct type) = tt
of_stack size packet_in = tt
of_stack size packet_out = tt
of_stack size errors = tt
of_stack size (enumeration enum) = tt
of_stack size (one_of enum) = tt
of_stack size table = tt
of_stack size applied = tt
of_stack size (object obj) = tt
of_stack size items = tt
of_stack size nothing = tt
of_stack size unknown = tt

-- names and those in front of them

abbrev AllPlain : List Known → Type 0
AllPlain names = (text : Name) → SortPlain (sort_in names text)

of_type : (names : List Known) → AllPlain names → (t : Type16) → IsPlainKind (kind_of_type names t)
of_type names plain (type16.Bit w) = tt
of_type names plain type16.Bool = tt
of_type names plain (type16.Named text None) = of_sort (sort_in names text) (plain text)
of_type names plain (type16.Named text (Some size)) = of_stack size.value (type_sort (sort_in names text))

abbrev SortsPlain : List Known → Type 0
SortsPlain [] = Unit {0}
SortsPlain (k ∷ ks) = SortPlain k.sort × SortsPlain ks

front_plain : (ks names : List Known) → SortsPlain ks → AllPlain names → AllPlain (ks ++ names)
front_plain [] names h plain text = plain text
front_plain (k ∷ ks) names h plain text =
    by_truth (λ (t : Bool). SortPlain (cond t k.sort (sort_in (ks ++ names) text))) h.0 (front_plain ks names h.1 plain text) (bytes_eq k.called text)

both_plain : (ks ls : List Known) → SortsPlain ks → SortsPlain ls → SortsPlain (ks ++ ls)
both_plain [] ls h g = g
both_plain (k ∷ ks) ls h g = (h.0, both_plain ks ls h.1 g)

-- the top

all_built : (ks : List Known) → SortsPlain ks → AllPlain ks
all_built [] h text = tt
all_built (k ∷ ks) h text = by_truth (λ (t : Bool). SortPlain (cond t k.sort (sort_in ks text))) h.0 (all_built ks h.1 text) (bytes_eq k.called text)

built_plain : AllPlain built_in
built_plain = all_built built_in (tt, (tt, (tt, (tt, (tt, (tt, (tt, (tt, (tt, (tt, (tt, (tt, (tt, (tt, (tt, (tt, tt))))))))))))))))

object_plain : (i : Instance) → SortPlain (instance_sort i)
object_plain (instance.Counter size m called) = tt
object_plain (instance.DirectCounter m called) = tt
object_plain (instance.Register width size called) = tt
object_plain (instance.Meter size m called) = tt

tops_plain : (ds : List Decl16) → SortsPlain (map top_name ds)
tops_plain [] = tt
tops_plain ((decl.Header h) ∷ ds) = (tt, tops_plain ds)
tops_plain ((decl.Struct x) ∷ ds) = (tt, tops_plain ds)
tops_plain ((decl.Instance notes i) ∷ ds) = (object_plain i, tops_plain ds)
tops_plain ((decl.Parser p) ∷ ds) = (tt, tops_plain ds)
tops_plain ((decl.Control c) ∷ ds) = (tt, tops_plain ds)

names_plain : (ds : List Decl16) → AllPlain (top_names ds)
names_plain ds = front_plain (map top_name ds) built_in (tops_plain ds) built_plain

-- the members of types

abbrev FieldsPlain : List FieldKind → Type 0
FieldsPlain [] = Unit {0}
FieldsPlain (f ∷ fields) = IsPlainKind f.kind × FieldsPlain fields

abbrev LayoutsPlain : List Layout → Type 0
LayoutsPlain [] = Unit {0}
LayoutsPlain (l ∷ layouts) = FieldsPlain l.fields × LayoutsPlain layouts

field_plain : (fields : List FieldKind) (word : Name) → FieldsPlain fields → IsPlainKind (known_kind (field_kind_in fields word))
field_plain [] word h = tt
field_plain (f ∷ fields) word h = by_truth (λ (t : Bool). IsPlainKind (known_kind (cond t (Some f.kind) (field_kind_in fields word)))) h.0 (field_plain fields word h.1) (bytes_eq f.called word)

fields_plain : (layouts : List Layout) (type : Name) → LayoutsPlain layouts → FieldsPlain (fields_in layouts type)
fields_plain [] type h = tt
fields_plain (l ∷ layouts) type h = by_truth (λ (t : Bool). FieldsPlain (cond t l.fields (fields_in layouts type))) h.0 (fields_plain layouts type h.1) (bytes_eq l.called type)

header_fields : (fields : List BitField) → FieldsPlain (map bit_field fields)
header_fields [] = tt
header_fields (f ∷ fields) = (tt, header_fields fields)

struct_fields : (names : List Known) → AllPlain names → (fields : List StructField) → FieldsPlain (map (struct_field names) fields)
struct_fields names plain [] = tt
struct_fields names plain (f ∷ fields) = (of_type names plain f.of, struct_fields names plain fields)

all_layouts : (names : List Known) → AllPlain names → (last : List Layout) → LayoutsPlain last → (ds : List Decl16) → LayoutsPlain (flat_map (layout_in names) ds ++ last)
all_layouts names plain last h [] = h
all_layouts names plain last h ((decl.Header x) ∷ ds) = (header_fields x.fields, all_layouts names plain last h ds)
all_layouts names plain last h ((decl.Struct x) ∷ ds) = (struct_fields names plain x.fields, all_layouts names plain last h ds)
all_layouts names plain last h ((decl.Instance notes i) ∷ ds) = all_layouts names plain last h ds
all_layouts names plain last h ((decl.Parser p) ∷ ds) = all_layouts names plain last h ds
all_layouts names plain last h ((decl.Control c) ∷ ds) = all_layouts names plain last h ds

pub top_is_plain : (ds : List Decl16) (positions : List ℕ) → NamesPlain (top_scope ds positions)
top_is_plain ds positions = record {
  names = names_plain ds;
  members = λ type word. field_plain (fields_in (layouts_of ds) type) word (fields_plain (layouts_of ds) type (all_layouts (top_names ds) (names_plain ds) (standard_layout ∷ []) ((tt, (tt, (tt, (tt, (tt, (tt, (tt, tt))))))), tt) ds));
}

-- blocks and actions

parameters_plain : (names : List Known) → AllPlain names → (ps : List Param) → SortsPlain (map (known_parameter names) ps)
parameters_plain names plain [] = tt
parameters_plain names plain (p ∷ ps) = (of_type names plain p.of, parameters_plain names plain ps)

vars_plain : (names : List Known) → AllPlain names → (vs : List Var) → SortsPlain (map (known_var names) vs)
vars_plain names plain [] = tt
vars_plain names plain (v ∷ vs) = (of_type names plain v.of, vars_plain names plain vs)

states_plain : (xs : List State) → SortsPlain (map known_state xs)
states_plain [] = tt
states_plain (x ∷ xs) = (tt, states_plain xs)

local_plain : (names : List Known) → AllPlain names → (l : Local) → SortPlain (known_local names l).sort
local_plain names plain (local.Instance notes (instance.Counter size m called)) = tt
local_plain names plain (local.Instance notes (instance.DirectCounter m called)) = tt
local_plain names plain (local.Instance notes (instance.Register width size called)) = tt
local_plain names plain (local.Instance notes (instance.Meter size m called)) = tt
local_plain names plain (local.Var v) = of_type names plain v.of
local_plain names plain (local.Action a) = tt
local_plain names plain (local.Table t) = tt

locals_plain : (names : List Known) → AllPlain names → (ls : List Local) → SortsPlain (map (known_local names) ls)
locals_plain names plain [] = tt
locals_plain names plain (l ∷ ls) = (local_plain names plain l, locals_plain names plain ls)

pub parser_is_plain : (s : Scope) (p : Parser16) → NamesPlain s → NamesPlain (parser_scope s p)
parser_is_plain s p plain = record {
  names =
      front_plain (parser_names s.names p) s.names
      (both_plain (map (known_parameter s.names) p.parameters ++ map (known_var s.names) p.vars) (map known_state p.states)
      (both_plain (map (known_parameter s.names) p.parameters) (map (known_var s.names) p.vars) (parameters_plain s.names plain.names p.parameters) (vars_plain s.names plain.names p.vars))
      (states_plain p.states))
      plain.names;
  members = plain.members;
}

pub control_is_plain : (s : Scope) (c : Control16) → NamesPlain s → NamesPlain (control_scope s c)
control_is_plain s c plain = record {
  names =
      front_plain (control_names s.names c) s.names
      (both_plain (map (known_parameter s.names) c.parameters) (map (known_local s.names) c.locals) (parameters_plain s.names plain.names c.parameters) (locals_plain s.names plain.names c.locals))
      plain.names;
  members = plain.members;
}

pub action_is_plain : (s : Scope) (a : Action16) → NamesPlain s → NamesPlain (action_scope s a)
action_is_plain s a plain = record {
  names = front_plain (map (known_parameter s.names) a.parameters) s.names (parameters_plain s.names plain.names a.parameters) plain.names;
  members = plain.members;
}

-- statements

pub variable_is_plain : (s : Scope) (t : Type16) (called : Name) → NamesPlain s → NamesPlain (with_variable t called s)
variable_is_plain s t called plain = record {
  names = front_plain (known (a_value (kind_of_type s.names t) true) called ∷ []) s.names (of_type s.names plain.names t, tt) plain.names;
  members = plain.members;
}

pub behind_is_plain : ScopesStayPlain
behind_is_plain s no_statements plain = plain
behind_is_plain s ((then) before last) plain = behind_is_plain (behind before s) last (behind_is_plain s before plain)
behind_is_plain s (block body) plain = plain
behind_is_plain s empty plain = plain
behind_is_plain s (var t called) plain = variable_is_plain s t called plain
behind_is_plain s (var_is t called e) plain = variable_is_plain s t called plain
behind_is_plain s (assign target e) plain = plain
behind_is_plain s (expression e) plain = plain
behind_is_plain s (if_then c positive) plain = plain
behind_is_plain s (if_else c positive negative) plain = plain
behind_is_plain s (switch named cases) plain = plain
behind_is_plain s no_cases plain = plain
behind_is_plain s (case_of before l body) plain = plain

pub scopes_are_plain : ScopesPlain
scopes_are_plain ds positions =
    let top : NamesPlain (top_scope ds positions) = top_is_plain ds positions in (
      top,
      (λ p. parser_is_plain (top_scope ds positions) p top),
      (λ c. control_is_plain (top_scope ds positions) c top),
      (λ c a. action_is_plain (control_scope (top_scope ds positions) c) a (control_is_plain (top_scope ds positions) c top)),
    )
