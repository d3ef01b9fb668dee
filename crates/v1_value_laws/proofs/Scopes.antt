-- In every scope of a program headers have bits for fields.
use Rattle.std.proofs.Common.{◌≡◌, ℕ, Bool, true, false, cond, Some, None, List, [], ◌∷◌, ◌++◌, map, refl, sym, subst}
use Rattle.std.specs.Prelude.{flat_map}
use Rattle.std.specs.Str.{bytes_eq}
use Rattle.std.proofs.lemmas.Slice.Eq.{bytes_eq-Decides}
use Rattle.p416_syntax.specs.declared.parts.Type16.{Type16}
use Rattle.p416_syntax.specs.declared.parts.Type16.TheVariants as type16
use Rattle.p416_syntax.specs.declared.parts.Param.{Param}
use Rattle.p416_syntax.specs.declared.parts.BitField.{BitField}
use Rattle.p416_syntax.specs.declared.parts.StructField.{StructField}
use Rattle.p416_syntax.specs.declared.parsers.Var.{Var}
use Rattle.p416_syntax.specs.declared.parsers.State.{State}
use Rattle.p416_syntax.specs.declared.parsers.Parser16.{Parser16}
use Rattle.p416_syntax.specs.declared.controls.Instance.{Instance}
use Rattle.p416_syntax.specs.declared.controls.Instance.TheVariants as instance
use Rattle.p416_syntax.specs.declared.controls.Action16.{Action16}
use Rattle.p416_syntax.specs.declared.controls.Local.{Local}
use Rattle.p416_syntax.specs.declared.controls.Local.TheVariants as local
use Rattle.p416_syntax.specs.declared.controls.Control16.{Control16}
use Rattle.p416_syntax.specs.declared.program.Decl16.{Decl16}
use Rattle.p416_syntax.specs.declared.program.Decl16.TheVariants as decl
use Rattle.p416_syntax.specs.Tree.{no_statements, then, block, empty, var, var_is, assign, expression, if_then, if_else, switch, no_cases, case_of}
use Rattle.p416_syntax.specs.Names.{Name}
use Rattle.p416_syntax.specs.Kinds.{Kind, bits, unsized, boolean, error_code, header, stack, struct, packet_in, packet_out, errors, enumeration, one_of, table, applied, object, items, nothing, unknown}
use Rattle.p416_syntax.specs.Scopes.{Layout, FieldKind, fields_in, Sort, a_type, a_value, an_enumeration, a_function, an_object, an_action, a_table, a_state, a_block, undeclared, Known, known, sort_in, Scope, type_sort, stack_kind, kind_of_type, known_parameter}
use Rattle.p416_syntax.specs.BuiltIn.{built_in, standard_layout}
use Rattle.p416_syntax.specs.Expressions.{field_kind_in, known_kind}
use Rattle.p416_syntax.specs.Statements.{with_variable, behind}
use Rattle.p416_syntax.specs.Declarations.{instance_sort, top_name, top_names, bit_field, struct_field, layout_in, layouts_of, top_scope, known_var, known_state, parser_names, parser_scope, action_scope, known_local, control_names, control_scope}
use Rattle.v1_core.proofs.Reading.{by_truth}
use Rattle.v1_value_laws.specs.Kinds.{FieldsBits, KindFine, SortFine, Fine}
use Rattle.v1_value_laws.specs.Laws.{ScopesFine, ScopesStayFine}

-- kinds of types

of_sort : (types : List Layout) (x : Sort) → SortFine types x → KindFine types (type_sort x)
of_sort types (a_type k) h = h
of_sort types (a_value k can) h = tt
of_sort types (an_enumeration of) h = tt
of_sort types a_function h = tt
of_sort types (an_object of) h = tt
of_sort types (an_action plane parameters) h = tt
of_sort types (a_table actions counters) h = tt
of_sort types a_state h = tt
of_sort types a_block h = tt
of_sort types undeclared h = tt

of_stack : (types : List Layout) (size : ℕ) (k : Kind) → KindFine types k → KindFine types (stack_kind size k)
of_stack types size (bits width) h = tt
of_stack types size unsized h = tt
of_stack types size boolean h = tt
of_stack types size error_code h = tt
of_stack types size (header type) h = h
of_stack types size (stack type many) h = tt
of_stack types size (struct type) h = tt
of_stack types size packet_in h = tt
of_stack types size packet_out h = tt
of_stack types size errors h = tt
of_stack types size (enumeration enum) h = tt
of_stack types size (one_of enum) h = tt
of_stack types size table h = tt
of_stack types size applied h = tt
of_stack types size (object obj) h = tt
of_stack types size items h = tt
of_stack types size nothing h = tt
of_stack types size unknown h = tt

-- the sorts of these names have headers of bits
abbrev AllFine : List Layout → List Known → Type 0
AllFine types names = (text : Name) → SortFine types (sort_in names text)

of_type : (types : List Layout) (names : List Known) → AllFine types names → (t : Type16) → KindFine types (kind_of_type names t)
of_type types names fine (type16.Bit w) = tt
of_type types names fine type16.Bool = tt
of_type types names fine (type16.Named text None) = of_sort types (sort_in names text) (fine text)
of_type types names fine (type16.Named text (Some size)) = of_stack types size.value (type_sort (sort_in names text)) (of_sort types (sort_in names text) (fine text))

-- names in front of others

abbrev SortsFine : List Layout → List Known → Type 0
SortsFine types [] = Unit {0}
SortsFine types (k ∷ ks) = SortFine types k.sort × SortsFine types ks

front_fine : (types : List Layout) (ks names : List Known) → SortsFine types ks → AllFine types names → AllFine types (ks ++ names)
front_fine types [] names h fine text = fine text
front_fine types (k ∷ ks) names h fine text =
    by_truth (λ (t : Bool). SortFine types (cond t k.sort (sort_in (ks ++ names) text))) h.0 (front_fine types ks names h.1 fine text) (bytes_eq k.called text)

both_fine : (types : List Layout) (ks ls : List Known) → SortsFine types ks → SortsFine types ls → SortsFine types (ks ++ ls)
both_fine types [] ls h g = g
both_fine types (k ∷ ks) ls h g = (h.0, both_fine types ks ls h.1 g)

-- the top: headers have their own layouts

abbrev NamedFine : List Layout → Name → Sort → Type 0
NamedFine types text (a_type (header t)) = (t ≡ text) × FieldsBits (fields_in types t)
NamedFine types text (a_type (stack t size)) = ⊥
NamedFine types text (a_value k can) = ⊥
NamedFine types text _ = Unit {0}

named_type : (types : List Layout) (text : Name) (k : Kind) → NamedFine types text (a_type k) → KindFine types k
named_type types text (bits width) h = tt
named_type types text unsized h = tt
named_type types text boolean h = tt
named_type types text error_code h = tt
named_type types text (header type) h = h.1
named_type types text (stack type many) h = absurd h
named_type types text (struct type) h = tt
named_type types text packet_in h = tt
named_type types text packet_out h = tt
named_type types text errors h = tt
named_type types text (enumeration enum) h = tt
named_type types text (one_of enum) h = tt
named_type types text table h = tt
named_type types text applied h = tt
named_type types text (object obj) h = tt
named_type types text items h = tt
named_type types text nothing h = tt
named_type types text unknown h = tt

named_sort : (types : List Layout) (text : Name) (x : Sort) → NamedFine types text x → SortFine types x
named_sort types text (a_type k) h = named_type types text k h
named_sort types text (a_value k can) h = absurd h
named_sort types text (an_enumeration of) h = tt
named_sort types text a_function h = tt
named_sort types text (an_object of) h = tt
named_sort types text (an_action plane parameters) h = tt
named_sort types text (a_table actions counters) h = tt
named_sort types text a_state h = tt
named_sort types text a_block h = tt
named_sort types text undeclared h = tt

past_type : (l : Layout) (types : List Layout) (text : Name) → bytes_eq l.called text ≡ false → (k : Kind) → NamedFine types text (a_type k) → NamedFine (l ∷ types) text (a_type k)
past_type l types text away (bits width) h = tt
past_type l types text away unsized h = tt
past_type l types text away boolean h = tt
past_type l types text away error_code h = tt
past_type l types text away (header type) h = (h.0, subst (λ (n : Name). FieldsBits (fields_in (l ∷ types) n)) (sym h.0) (subst (λ (t : Bool). FieldsBits (cond t l.fields (fields_in types text))) (sym away) (subst (λ (n : Name). FieldsBits (fields_in types n)) h.0 h.1)))
past_type l types text away (stack type many) h = absurd h
past_type l types text away (struct type) h = tt
past_type l types text away packet_in h = tt
past_type l types text away packet_out h = tt
past_type l types text away errors h = tt
past_type l types text away (enumeration enum) h = tt
past_type l types text away (one_of enum) h = tt
past_type l types text away table h = tt
past_type l types text away applied h = tt
past_type l types text away (object obj) h = tt
past_type l types text away items h = tt
past_type l types text away nothing h = tt
past_type l types text away unknown h = tt

past : (l : Layout) (types : List Layout) (text : Name) → bytes_eq l.called text ≡ false → (x : Sort) → NamedFine types text x → NamedFine (l ∷ types) text x
past l types text away (a_type k) h = past_type l types text away k h
past l types text away (a_value k can) h = absurd h
past l types text away (an_enumeration of) h = tt
past l types text away a_function h = tt
past l types text away (an_object of) h = tt
past l types text away (an_action plane parameters) h = tt
past l types text away (a_table actions counters) h = tt
past l types text away a_state h = tt
past l types text away a_block h = tt
past l types text away undeclared h = tt

object_fine : (types : List Layout) (text : Name) (i : Instance) → NamedFine types text (instance_sort i)
object_fine types text (instance.Counter size m called) = tt
object_fine types text (instance.DirectCounter m called) = tt
object_fine types text (instance.Register width size called) = tt
object_fine types text (instance.Meter size m called) = tt

one_built : (types : List Layout) (text : Name) (k : Known) (rest : List Known) → NamedFine types text k.sort → NamedFine types text (sort_in rest text) → NamedFine types text (sort_in (k ∷ rest) text)
one_built types text k rest h g = by_truth (λ (t : Bool). NamedFine types text (cond t k.sort (sort_in rest text))) h g (bytes_eq k.called text)

abbrev AllNamed : List Layout → Name → List Known → Type 0
AllNamed types text [] = Unit {0}
AllNamed types text (k ∷ ks) = NamedFine types text k.sort × AllNamed types text ks

all_built : (types : List Layout) (text : Name) (ks : List Known) → AllNamed types text ks → NamedFine types text (sort_in ks text)
all_built types text [] h = tt
all_built types text (k ∷ ks) h = one_built types text k ks h.0 (all_built types text ks h.1)

built_fine : (types : List Layout) (text : Name) → NamedFine types text (sort_in built_in text)
built_fine types text = all_built types text built_in (tt, (tt, (tt, (tt, (tt, (tt, (tt, (tt, (tt, (tt, (tt, (tt, (tt, (tt, (tt, (tt, tt))))))))))))))))

bits_fine : (fields : List BitField) → FieldsBits (map bit_field fields)
bits_fine [] = tt
bits_fine (f ∷ fields) = (tt, bits_fine fields)

own_layout : (called : Name) (fields : List FieldKind) (types : List Layout) → FieldsBits fields → FieldsBits (fields_in (record { called = called; fields = fields } ∷ types) called)
own_layout called fields types h =
    subst (λ (t : Bool). FieldsBits (cond t fields (fields_in types called))) (sym ((bytes_eq-Decides called called).1 refl)) h

top_fine : (all : List Known) (last : List Layout) (text : Name) (ds : List Decl16) → NamedFine (flat_map (layout_in all) ds ++ last) text (sort_in (map top_name ds ++ built_in) text)
top_fine all last text [] = built_fine last text
top_fine all last text ((decl.Header h) ∷ ds) = by (bytes_eq h.name text) refl (top_fine all last text ds) where
  types : List Layout
  types = flat_map (layout_in all) ds ++ last

  by : (t : Bool) → bytes_eq h.name text ≡ t → NamedFine types text (sort_in (map top_name ds ++ built_in) text) → NamedFine (record { called = h.name; fields = map bit_field h.fields } ∷ types) text (cond t (a_type (header h.name)) (sort_in (map top_name ds ++ built_in) text))
  by true e rest = ((bytes_eq-Decides h.name text).0 e, own_layout h.name (map bit_field h.fields) types (bits_fine h.fields))
  by false e rest = past (record { called = h.name; fields = map bit_field h.fields }) types text e (sort_in (map top_name ds ++ built_in) text) rest
top_fine all last text ((decl.Struct x) ∷ ds) = by (bytes_eq x.name text) refl (top_fine all last text ds) where
  types : List Layout
  types = flat_map (layout_in all) ds ++ last

  by : (t : Bool) → bytes_eq x.name text ≡ t → NamedFine types text (sort_in (map top_name ds ++ built_in) text) → NamedFine (record { called = x.name; fields = map (struct_field all) x.fields } ∷ types) text (cond t (a_type (struct x.name)) (sort_in (map top_name ds ++ built_in) text))
  by true e rest = tt
  by false e rest = past (record { called = x.name; fields = map (struct_field all) x.fields }) types text e (sort_in (map top_name ds ++ built_in) text) rest
top_fine all last text ((decl.Instance notes i) ∷ ds) = one_built (flat_map (layout_in all) ds ++ last) text (top_name (decl.Instance notes i)) (map top_name ds ++ built_in) (object_fine (flat_map (layout_in all) ds ++ last) text i) (top_fine all last text ds)
top_fine all last text ((decl.Parser p) ∷ ds) = one_built (flat_map (layout_in all) ds ++ last) text (top_name (decl.Parser p)) (map top_name ds ++ built_in) tt (top_fine all last text ds)
top_fine all last text ((decl.Control c) ∷ ds) = one_built (flat_map (layout_in all) ds ++ last) text (top_name (decl.Control c)) (map top_name ds ++ built_in) tt (top_fine all last text ds)

names_fine : (ds : List Decl16) → AllFine (layouts_of ds) (top_names ds)
names_fine ds text = named_sort (layouts_of ds) text (sort_in (top_names ds) text) (top_fine (top_names ds) (standard_layout ∷ []) text ds)

-- the members of types

abbrev FieldsFine : List Layout → List FieldKind → Type 0
FieldsFine types [] = Unit {0}
FieldsFine types (f ∷ fields) = KindFine types f.kind × FieldsFine types fields

abbrev LayoutsFine : List Layout → List Layout → Type 0
LayoutsFine types [] = Unit {0}
LayoutsFine types (l ∷ layouts) = FieldsFine types l.fields × LayoutsFine types layouts

field_fine : (types : List Layout) (fields : List FieldKind) (word : Name) → FieldsFine types fields → KindFine types (known_kind (field_kind_in fields word))
field_fine types [] word h = tt
field_fine types (f ∷ fields) word h = by_truth (λ (t : Bool). KindFine types (known_kind (cond t (Some f.kind) (field_kind_in fields word)))) h.0 (field_fine types fields word h.1) (bytes_eq f.called word)

fields_fine : (types layouts : List Layout) (type : Name) → LayoutsFine types layouts → FieldsFine types (fields_in layouts type)
fields_fine types [] type h = tt
fields_fine types (l ∷ layouts) type h = by_truth (λ (t : Bool). FieldsFine types (cond t l.fields (fields_in layouts type))) h.0 (fields_fine types layouts type h.1) (bytes_eq l.called type)

header_fields : (types : List Layout) (fields : List BitField) → FieldsFine types (map bit_field fields)
header_fields types [] = tt
header_fields types (f ∷ fields) = (tt, header_fields types fields)

struct_fields : (types : List Layout) (names : List Known) → AllFine types names → (fields : List StructField) → FieldsFine types (map (struct_field names) fields)
struct_fields types names fine [] = tt
struct_fields types names fine (f ∷ fields) = (of_type types names fine f.of, struct_fields types names fine fields)

all_layouts : (types : List Layout) (names : List Known) → AllFine types names → (last : List Layout) → LayoutsFine types last → (ds : List Decl16) → LayoutsFine types (flat_map (layout_in names) ds ++ last)
all_layouts types names fine last h [] = h
all_layouts types names fine last h ((decl.Header x) ∷ ds) = (header_fields types x.fields, all_layouts types names fine last h ds)
all_layouts types names fine last h ((decl.Struct x) ∷ ds) = (struct_fields types names fine x.fields, all_layouts types names fine last h ds)
all_layouts types names fine last h ((decl.Instance notes i) ∷ ds) = all_layouts types names fine last h ds
all_layouts types names fine last h ((decl.Parser p) ∷ ds) = all_layouts types names fine last h ds
all_layouts types names fine last h ((decl.Control c) ∷ ds) = all_layouts types names fine last h ds

pub top_is_fine : (ds : List Decl16) (positions : List ℕ) → Fine (top_scope ds positions)
top_is_fine ds positions = record {
  members = λ type word. field_fine (layouts_of ds) (fields_in (layouts_of ds) type) word (fields_fine (layouts_of ds) (layouts_of ds) type (all_layouts (layouts_of ds) (top_names ds) (names_fine ds) (standard_layout ∷ []) ((tt, (tt, (tt, (tt, (tt, (tt, (tt, tt))))))), tt) ds));
  names = names_fine ds;
}

-- blocks and actions

parameters_fine : (types : List Layout) (names : List Known) → AllFine types names → (ps : List Param) → SortsFine types (map (known_parameter names) ps)
parameters_fine types names fine [] = tt
parameters_fine types names fine (p ∷ ps) = (of_type types names fine p.of, parameters_fine types names fine ps)

vars_fine : (types : List Layout) (names : List Known) → AllFine types names → (vs : List Var) → SortsFine types (map (known_var names) vs)
vars_fine types names fine [] = tt
vars_fine types names fine (v ∷ vs) = (of_type types names fine v.of, vars_fine types names fine vs)

states_fine : (types : List Layout) (xs : List State) → SortsFine types (map known_state xs)
states_fine types [] = tt
states_fine types (x ∷ xs) = (tt, states_fine types xs)

local_fine : (types : List Layout) (names : List Known) → AllFine types names → (l : Local) → SortFine types (known_local names l).sort
local_fine types names fine (local.Instance notes (instance.Counter size m called)) = tt
local_fine types names fine (local.Instance notes (instance.DirectCounter m called)) = tt
local_fine types names fine (local.Instance notes (instance.Register width size called)) = tt
local_fine types names fine (local.Instance notes (instance.Meter size m called)) = tt
local_fine types names fine (local.Var v) = of_type types names fine v.of
local_fine types names fine (local.Action a) = tt
local_fine types names fine (local.Table t) = tt

locals_fine : (types : List Layout) (names : List Known) → AllFine types names → (ls : List Local) → SortsFine types (map (known_local names) ls)
locals_fine types names fine [] = tt
locals_fine types names fine (l ∷ ls) = (local_fine types names fine l, locals_fine types names fine ls)

pub parser_is_fine : (s : Scope) (p : Parser16) → Fine s → Fine (parser_scope s p)
parser_is_fine s p fine = record {
  members = fine.members;
  names =
      front_fine s.layouts (parser_names s.names p) s.names
      (both_fine s.layouts (map (known_parameter s.names) p.parameters ++ map (known_var s.names) p.vars) (map known_state p.states)
      (both_fine s.layouts (map (known_parameter s.names) p.parameters) (map (known_var s.names) p.vars) (parameters_fine s.layouts s.names fine.names p.parameters) (vars_fine s.layouts s.names fine.names p.vars))
      (states_fine s.layouts p.states))
      fine.names;
}

pub control_is_fine : (s : Scope) (c : Control16) → Fine s → Fine (control_scope s c)
control_is_fine s c fine = record {
  members = fine.members;
  names =
      front_fine s.layouts (control_names s.names c) s.names
      (both_fine s.layouts (map (known_parameter s.names) c.parameters) (map (known_local s.names) c.locals) (parameters_fine s.layouts s.names fine.names c.parameters) (locals_fine s.layouts s.names fine.names c.locals))
      fine.names;
}

pub action_is_fine : (s : Scope) (a : Action16) → Fine s → Fine (action_scope s a)
action_is_fine s a fine = record {
  members = fine.members;
  names = front_fine s.layouts (map (known_parameter s.names) a.parameters) s.names (parameters_fine s.layouts s.names fine.names a.parameters) fine.names;
}

-- statements

pub variable_is_fine : (s : Scope) (t : Type16) (called : Name) → Fine s → Fine (with_variable t called s)
variable_is_fine s t called fine = record {
  members = fine.members;
  names = front_fine s.layouts (known (a_value (kind_of_type s.names t) true) called ∷ []) s.names (of_type s.layouts s.names fine.names t, tt) fine.names;
}

pub behind_is_fine : ScopesStayFine
behind_is_fine s no_statements fine = fine
behind_is_fine s ((then) before last) fine = behind_is_fine (behind before s) last (behind_is_fine s before fine)
behind_is_fine s (block body) fine = fine
behind_is_fine s empty fine = fine
behind_is_fine s (var t called) fine = variable_is_fine s t called fine
behind_is_fine s (var_is t called e) fine = variable_is_fine s t called fine
behind_is_fine s (assign target e) fine = fine
behind_is_fine s (expression e) fine = fine
behind_is_fine s (if_then c positive) fine = fine
behind_is_fine s (if_else c positive negative) fine = fine
behind_is_fine s (switch named cases) fine = fine
behind_is_fine s no_cases fine = fine
behind_is_fine s (case_of before l body) fine = fine

pub scopes_are_fine : ScopesFine
scopes_are_fine ds positions =
    let top : Fine (top_scope ds positions) = top_is_fine ds positions in (
      top,
      (λ p. parser_is_fine (top_scope ds positions) p top),
      (λ c. control_is_fine (top_scope ds positions) c top),
      (λ c a. action_is_fine (control_scope (top_scope ds positions) c) a (control_is_fine (top_scope ds positions) c top)),
    )
