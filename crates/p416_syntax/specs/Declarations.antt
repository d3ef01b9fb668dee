-- What the rules judge in declarations, and the scopes of their parts (P4_16 1.2, "Name resolution", "Derived types",
-- "Packet parsing", "Control blocks", "Actions", "Tables"). At the top, and among the declarations of a parser or a control,
-- a name may be used before it is declared.
use Rattle.std.specs.Prelude.{ℕ, ◌+◌, Bool, true, List, [], ◌∷◌, ◌++◌, length, map, replicate, flat_map, filter_map, option_to_list, zip, Option, Some, None, codes}
use Rattle.std.specs.Option.{option_map_or}
use Rattle.std.specs.Str.{bytes_eq}
use Rattle.p416_syntax.specs.declared.lexeme.Literal16.{Literal16}
use Rattle.p416_syntax.specs.declared.parts.Note.{Note}
use Rattle.p416_syntax.specs.declared.parts.Note.TheVariants as note
use Rattle.p416_syntax.specs.declared.parts.Param.{Param}
use Rattle.p416_syntax.specs.declared.parts.BitField.{BitField}
use Rattle.p416_syntax.specs.declared.parts.Header16.{Header16}
use Rattle.p416_syntax.specs.declared.parts.StructField.{StructField}
use Rattle.p416_syntax.specs.declared.parts.Struct16.{Struct16}
use Rattle.p416_syntax.specs.declared.parsers.Var.{Var}
use Rattle.p416_syntax.specs.declared.parsers.Target.{Target}
use Rattle.p416_syntax.specs.declared.parsers.Target.TheVariants as target_of
use Rattle.p416_syntax.specs.declared.parsers.Simple.{Simple}
use Rattle.p416_syntax.specs.declared.parsers.Simple.TheVariants as simple
use Rattle.p416_syntax.specs.declared.parsers.Keyset.{Keyset}
use Rattle.p416_syntax.specs.declared.parsers.Keyset.TheVariants as keyset
use Rattle.p416_syntax.specs.declared.parsers.SelectCase.{SelectCase}
use Rattle.p416_syntax.specs.declared.parsers.Transition.{Transition}
use Rattle.p416_syntax.specs.declared.parsers.Transition.TheVariants as transition
use Rattle.p416_syntax.specs.declared.parsers.State.{State}
use Rattle.p416_syntax.specs.declared.parsers.Parser16.{Parser16}
use Rattle.p416_syntax.specs.declared.controls.Instance.{Instance}
use Rattle.p416_syntax.specs.declared.controls.Instance.TheVariants as instance
use Rattle.p416_syntax.specs.declared.controls.Action16.{Action16}
use Rattle.p416_syntax.specs.declared.controls.ActionName.{ActionName}
use Rattle.p416_syntax.specs.declared.controls.ActionName.TheVariants as action_name
use Rattle.p416_syntax.specs.declared.controls.TableKey.{TableKey}
use Rattle.p416_syntax.specs.declared.controls.Table16.{Table16}
use Rattle.p416_syntax.specs.declared.controls.Local.{Local}
use Rattle.p416_syntax.specs.declared.controls.Local.TheVariants as local
use Rattle.p416_syntax.specs.declared.controls.Control16.{Control16}
use Rattle.p416_syntax.specs.declared.program.Decl16.{Decl16}
use Rattle.p416_syntax.specs.declared.program.Decl16.TheVariants as decl
use Rattle.p416_syntax.specs.Properties.{keys_of, actions_of, size_of, counters_of, default_action_of, default_arguments_of}
use Rattle.p416_syntax.specs.Tree.{Exp16, Stmt16}
use Rattle.p416_syntax.specs.Names.{Name}
use Rattle.p416_syntax.specs.Kinds.{counter_type, meter_type, counter, direct_counter, register, meter, Kind, bits, header, struct, unknown}
use Rattle.p416_syntax.specs.Scopes.{Handed, Sort, a_type, a_value, an_object, an_action, a_table, a_state, a_block, Known, known, called_of, FieldKind, Layout, in_parser, in_apply, in_action, in_key, elsewhere, Scope, sort_of, inside, kind_of_type, known_parameter, handed, plane_name}
use Rattle.p416_syntax.specs.BuiltIn.{built_in, standard_layout, field}
use Rattle.p416_syntax.specs.Calls.{Place, value, literal_of, any_literal, select_key, table_key}
use Rattle.p416_syntax.specs.Expressions.{kind_of, argument_count}
use Rattle.p416_syntax.specs.Uses.{Use, a_name, some_action, some_state, some_direct_counter, names_of_scope, a_width, a_number, a_header, a_member, a_keyset, a_count, some_parameters, some_counters, a_table_of, a_body, of_field, of_variable, of_action_parameter, of_block_parameter, TypePlace, type_uses, uses, uses_at, many}
use Rattle.p416_syntax.specs.Statements.{behind, declared_in, statement_uses, nesting}

-- the names at the top

abbrev pub instance_name : Instance → Name
instance_name (instance.Counter size m text) = text
instance_name (instance.DirectCounter m text) = text
instance_name (instance.Register width size text) = text
instance_name (instance.Meter size m text) = text

abbrev pub instance_sort : Instance → Sort
instance_sort (instance.Counter size m text) = an_object counter
instance_sort (instance.DirectCounter m text) = an_object direct_counter
instance_sort (instance.Register width size text) = an_object register
instance_sort (instance.Meter size m text) = an_object meter

abbrev pub top_name : Decl16 → Known
top_name (decl.Header h) = known (a_type (header h.name)) h.name
top_name (decl.Struct x) = known (a_type (struct x.name)) x.name
top_name (decl.Instance notes i) = known (instance_sort i) (instance_name i)
top_name (decl.Parser p) = known a_block p.name
top_name (decl.Control c) = known a_block c.name

-- what a program declares at the top, and what is built in
abbrev pub top_names : List Decl16 → List Known
top_names ds = map top_name ds ++ built_in

-- the fields of the types of a program

abbrev pub bit_field : BitField → FieldKind
bit_field f = field (bits f.width.value) f.name

abbrev pub struct_field : List Known → StructField → FieldKind
struct_field names f = field (kind_of_type names f.of) f.name

abbrev pub layout_in : List Known → Decl16 → List Layout
layout_in names (decl.Header h) = record { called = h.name; fields = map bit_field h.fields } ∷ []
layout_in names (decl.Struct x) = record { called = x.name; fields = map (struct_field names) x.fields } ∷ []
layout_in names _ = []

abbrev pub layouts_of : List Decl16 → List Layout
layouts_of ds = flat_map (layout_in (top_names ds)) ds ++ standard_layout ∷ []

-- the scope at the top, for a block that stands at these places of `main`
abbrev pub top_scope : List Decl16 → List ℕ → Scope
top_scope ds positions =
    record { layouts = layouts_of ds; names = top_names ds; positions = positions; part = elsewhere }

-- annotations

abbrev pub list_numbers : Note → List Literal16
list_numbers (note.Name text) = []
list_numbers (note.FieldList numbers) = numbers

abbrev pub note_uses : List Note → List Use
note_uses notes = map a_number (flat_map list_numbers notes)

-- types, objects and variables

abbrev pub field_name : BitField → Name
field_name f = f.name

abbrev pub field_width : BitField → Use
field_width f = a_width f.width

abbrev pub header_uses : Header16 → List Use
header_uses h = names_of_scope (map field_name h.fields) ∷ a_header h ∷ map field_width h.fields

abbrev pub member_name : StructField → Name
member_name f = f.name

abbrev pub struct_field_uses : Scope → StructField → List Use
struct_field_uses s f = note_uses f.notes ++ type_uses s of_field f.of

abbrev pub struct_uses : Scope → Struct16 → List Use
struct_uses s x = names_of_scope (map member_name x.fields) ∷ flat_map (struct_field_uses s) x.fields

abbrev pub instance_uses : Scope → Instance → List Use
instance_uses s (instance.Counter size m text) = a_member counter_type m ∷ uses s (literal_of (bits 32)) size
instance_uses s (instance.DirectCounter m text) = a_member counter_type m ∷ []
instance_uses s (instance.Register width size text) = a_width width ∷ uses s (literal_of (bits 32)) size
instance_uses s (instance.Meter size m text) = a_member meter_type m ∷ uses s (literal_of (bits 32)) size

abbrev pub object_uses : Scope → List Note → Instance → List Use
object_uses s notes i = note_uses notes ++ instance_uses s i

abbrev pub var_uses : Scope → Var → List Use
var_uses s v = type_uses s of_variable v.of ++ option_map_or (uses s (value (kind_of_type s.names v.of))) v.initial []

abbrev pub known_var : List Known → Var → Known
known_var names v = known (a_value (kind_of_type names v.of) true) v.name

abbrev pub parameter_name : Param → Name
parameter_name p = p.name

abbrev pub parameter_uses : Scope → TypePlace → Param → List Use
parameter_uses s place p = type_uses s place p.of

-- the list of statements of a state, an action or a control, whose own braces are so many blocks
abbrev pub body_uses : Scope → ℕ → Stmt16 → List Use
body_uses s braces body =
    names_of_scope (declared_in body) ∷ a_body (braces + nesting body) ∷ statement_uses s body

-- parser states

abbrev pub target_name : Target → Option Name
target_name (target_of.State text) = Some text
target_name target_of.Accept = None
target_name target_of.Reject = None

abbrev pub target_uses : Scope → Target → List Use
target_uses s t = map (a_name s some_state) (option_to_list (target_name t))

-- what a key is compared with: literals of its kind
abbrev pub simple_uses : Scope → Kind → Simple → List Use
simple_uses s k simple.Default = []
simple_uses s k simple.Any = []
simple_uses s k (simple.Mask a b) = uses s (literal_of k) a ++ uses s (literal_of k) b
simple_uses s k (simple.Range a b) = uses s (literal_of k) a ++ uses s (literal_of k) b
simple_uses s k (simple.Value a) = uses s (literal_of k) a

abbrev pub keyset_parts : Keyset → List Simple
keyset_parts (keyset.Tuple parts) = parts
keyset_parts (keyset.One part) = part ∷ []

abbrev pub compared_uses : Scope → Kind × Simple → List Use
compared_uses s pair = simple_uses s pair.0 pair.1

-- each part of a keyset with its key; a part for which there is no key is of no kind that is known
abbrev pub with_keys : List Kind → List Simple → List (Kind × Simple)
with_keys keys parts = zip (keys ++ replicate (length parts) unknown) parts

abbrev pub case_uses : Scope → List Kind → SelectCase → List Use
case_uses s keys c =
    a_keyset keys c.keyset ∷ flat_map (compared_uses s) (with_keys keys (keyset_parts c.keyset)) ++ target_uses s c.target

abbrev pub transition_uses : Scope → Transition → List Use
transition_uses s (transition.Go t) = target_uses s t
transition_uses s (transition.Select keys cases) =
    flat_map (uses s select_key) keys ++ flat_map (case_uses s (map (kind_of s) keys)) cases

-- the statements of a state are no block, and its transition stands in the scope behind them
abbrev pub state_uses : Scope → State → List Use
state_uses s x = body_uses s 0 x.body ++ transition_uses (behind x.body s) x.transition

abbrev pub state_name : State → Name
state_name x = x.name

abbrev pub known_state : State → Known
known_state x = known a_state x.name

abbrev pub parser_names : List Known → Parser16 → List Known
parser_names names p =
    map (known_parameter names) p.parameters ++ map (known_var names) p.vars ++ map known_state p.states

-- The scope of a parser. The types of its parameters are looked up at the top, those of its variables in it: where one of
-- its names hides a type that is used in it, T1 is broken, and elsewhere the type is that at the top.
abbrev pub parser_scope : Scope → Parser16 → Scope
parser_scope s p = record (inside s (parser_names s.names p)) { part = in_parser }

abbrev pub parser_uses : Scope → Parser16 → List Use
parser_uses s p =
    names_of_scope (map called_of (parser_names s.names p))
    ∷ flat_map (parameter_uses s of_block_parameter) p.parameters
    ++ flat_map (var_uses (parser_scope s p)) p.vars ++ flat_map (state_uses (parser_scope s p)) p.states

-- actions

abbrev pub action_scope : Scope → Action16 → Scope
action_scope s a = record (inside s (map (known_parameter s.names) a.parameters)) { part = in_action a.name }

abbrev pub action_uses : Scope → Action16 → List Use
action_uses s a =
    note_uses a.notes ++ names_of_scope (map parameter_name a.parameters) ∷ some_parameters a.parameters
    ∷ flat_map (parameter_uses s of_action_parameter) a.parameters ++ body_uses (action_scope s a) 1 a.body

-- tables

abbrev pub is_exact : TableKey → Bool
is_exact k = bytes_eq k.kind (codes "exact")

abbrev pub key_uses : Scope → TableKey → List Use
key_uses s k = uses (record s { part = in_key }) (table_key (is_exact k)) k.exp ++ note_uses k.notes

abbrev pub declared_name : ActionName → Option Name
declared_name (action_name.Declared text) = Some text
declared_name action_name.NoAction = None

abbrev pub action_name_uses : Scope → ActionName → List Use
action_name_uses s a = map (a_name s some_action) (option_to_list (declared_name a))

-- the parameters of an action by its name; `NoAction` has none
abbrev pub sort_parameters : Sort → List Handed
sort_parameters (an_action plane parameters) = parameters
sort_parameters _ = []

abbrev pub parameters_of : Scope → ActionName → List Handed
parameters_of s (action_name.Declared text) = sort_parameters (sort_of s text)
parameters_of s action_name.NoAction = []

-- the arguments of a default action are literals, also those for which there is no parameter
abbrev pub default_place : Handed → Place
default_place h = literal_of h.kind

abbrev pub given_uses : Scope → List Handed → Exp16 → List Use
given_uses s parameters given =
    a_count (length parameters) (argument_count given) ∷ uses_at s (many (map default_place parameters) any_literal) given

abbrev pub default_uses : Scope → ActionName → Option Exp16 → List Use
default_uses s a given = action_name_uses s a ++ option_map_or (given_uses s (parameters_of s a)) given []

abbrev pub defaults_of : Scope → Option ActionName → Option Exp16 → List Use
defaults_of s (Some a) given = default_uses s a given
defaults_of s None given = []

abbrev pub table_uses : Scope → Table16 → List Use
table_uses s t =
    note_uses t.notes ++ a_table_of s t ∷ flat_map (key_uses s) (keys_of t.properties)
    ++ flat_map (action_name_uses s) (actions_of t.properties) ++ map a_number (option_to_list (size_of t.properties))
    ++ map (a_name s some_direct_counter) (option_to_list (counters_of t.properties))
    ++ defaults_of s (default_action_of t.properties) (default_arguments_of t.properties)

-- controls

-- What a control declares. The types of its variables and of the parameters of its actions are looked up in the control's
-- own scope: where one of its names hides a type that is used in it, T1 is broken, and elsewhere the type is that at the
-- top.
abbrev pub known_local : List Known → Local → Known
known_local names (local.Instance notes i) = known (instance_sort i) (instance_name i)
known_local names (local.Var v) = known_var names v
known_local names (local.Action a) = known (an_action (plane_name a.notes a.name) (map (handed names) a.parameters)) a.name
known_local names (local.Table t) = known (a_table (actions_of t.properties) (counters_of t.properties)) t.name

abbrev pub control_names : List Known → Control16 → List Known
control_names names c = map (known_parameter names) c.parameters ++ map (known_local names) c.locals

abbrev pub control_scope : Scope → Control16 → Scope
control_scope s c = record (inside s (control_names s.names c)) { part = in_apply }

abbrev pub local_uses : Scope → Local → List Use
local_uses s (local.Instance notes i) = object_uses s notes i
local_uses s (local.Var v) = var_uses s v
local_uses s (local.Action a) = action_uses s a
local_uses s (local.Table t) = table_uses s t

abbrev pub table_in : Local → Option Table16
table_in (local.Table t) = Some t
table_in _ = None

abbrev pub action_in : Local → Option Action16
action_in (local.Action a) = Some a
action_in _ = None

abbrev pub tables_in : Control16 → List Table16
tables_in c = filter_map table_in c.locals

abbrev pub actions_in : Control16 → List Action16
actions_in c = filter_map action_in c.locals

abbrev pub counters_in : Table16 → Option Name
counters_in t = counters_of t.properties

abbrev pub control_uses : Scope → Control16 → List Use
control_uses s c =
    names_of_scope (map called_of (control_names s.names c)) ∷ some_counters (filter_map counters_in (tables_in c))
    ∷ flat_map (parameter_uses s of_block_parameter) c.parameters
    ++ flat_map (local_uses (control_scope s c)) c.locals ++ body_uses (control_scope s c) 1 c.body

-- what the rules judge in a declaration at the top
abbrev pub declaration_uses : Scope → Decl16 → List Use
declaration_uses s (decl.Header h) = header_uses h
declaration_uses s (decl.Struct x) = struct_uses s x
declaration_uses s (decl.Instance notes i) = object_uses s notes i
declaration_uses s (decl.Parser p) = parser_uses s p
declaration_uses s (decl.Control c) = control_uses s c
