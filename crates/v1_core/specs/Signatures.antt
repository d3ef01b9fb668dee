-- The signature: what a control plane sees of a program, its tables and its stateful objects, both by the octet order of
-- their control-plane names (P4_16 1.2, "Tables", "Control-plane API annotations"; `v1model.p4`; the order and the size of
-- a table that gives none are this project's own). The control-plane name is that of `@name`, else the own one. `NoAction`
-- is in no signature.
use Rattle.std.specs.Prelude.{ℕ, ◌-◌, ◌^◌, min, Bool, false, if◌then◌else◌, List, [], ◌∷◌, length, map, flat_map, filter_map, fold, Option, Some, None, codes, option_map, unwrap_or, position}
use Rattle.std.specs.Option.{option_map_or}
use Rattle.std.specs.Str.{bytes_eq}
use Rattle.std.specs.BTreeSet.{insert_key}
use Rattle.std.specs.Ordering.{nat_cmp}
use Rattle.std.specs.Cmp.Lexicographic.{slice_cmp}
use Rattle.state_store.specs.declared.shapes.Kind.{Kind as CountKind}
use Rattle.state_store.specs.declared.shapes.Kind.TheVariants.{Packets as count_packets, Bytes as count_bytes, Both}
use Rattle.state_store.specs.declared.shapes.Shape.{Shape}
use Rattle.state_store.specs.declared.shapes.Shape.TheVariants as shape
use Rattle.match_core.specs.declared.signatures.KeyKind.{KeyKind}
use Rattle.match_core.specs.declared.signatures.KeyKind.TheVariants.{Exact, Ternary, Lpm, Range}
use Rattle.match_core.specs.declared.signatures.KeySpec.{KeySpec}
use Rattle.match_core.specs.declared.signatures.ActionSig.{ActionSig}
use Rattle.match_core.specs.declared.signatures.TableSig.{TableSig}
use Rattle.match_core.specs.declared.signatures.ObjectSig.{ObjectSig}
use Rattle.match_core.specs.declared.signatures.Signature.{Signature}
use Rattle.p416_syntax.specs.declared.lexeme.Literal16.{Literal16}
use Rattle.p416_syntax.specs.declared.parts.Member.{Member}
use Rattle.p416_syntax.specs.declared.parts.Member.TheVariants as member_of
use Rattle.p416_syntax.specs.declared.parts.CounterType.TheVariants.{Packets, Bytes}
use Rattle.p416_syntax.specs.declared.controls.Instance.{Instance}
use Rattle.p416_syntax.specs.declared.controls.Instance.TheVariants as instance
use Rattle.p416_syntax.specs.declared.controls.ActionName.{ActionName}
use Rattle.p416_syntax.specs.declared.controls.ActionName.TheVariants as action_name
use Rattle.p416_syntax.specs.declared.controls.TableKey.{TableKey}
use Rattle.p416_syntax.specs.declared.controls.Table16.{Table16}
use Rattle.p416_syntax.specs.declared.controls.Local.{Local}
use Rattle.p416_syntax.specs.declared.controls.Local.TheVariants as local
use Rattle.p416_syntax.specs.declared.program.Decl16.{Decl16}
use Rattle.p416_syntax.specs.declared.program.Decl16.TheVariants as decl
use Rattle.p416_syntax.specs.declared.program.Syntax16.{Syntax16}
use Rattle.p416_syntax.specs.Properties.{keys_of, actions_of, size_of, counters_of}
use Rattle.p416_syntax.specs.Names.{Name}
use Rattle.p416_syntax.specs.Kinds.{Kind, boolean}
use Rattle.p416_syntax.specs.Scopes.{Handed, Scope, in_key, plane_name}
use Rattle.p416_syntax.specs.Expressions.{kind_of}
use Rattle.p416_syntax.specs.Declarations.{instance_name, parameters_of, tables_in, control_scope}
use Rattle.p416_syntax.specs.Tables.{action_plane, table_plane, tables_of, objects_of}
use Rattle.p416_syntax.specs.Totals.{bits_in, size_value}
use Rattle.p416_syntax.specs.Breaks.{scope_of}

-- names in the order of their octets, each once
abbrev pub in_order : List Name → List Name
in_order names = fold (insert_key (slice_cmp nat_cmp)) [] names

-- the place of a name among names, and past the last where it isn't there
abbrev pub place_among : List Name → Name → ℕ
place_among names text = unwrap_or (position (bytes_eq text) names) (length names)

-- a table with the scope and the declarations of its control
pub record Placed : Type 0 where
  pub scope : Scope
  pub locals : List Local
  pub table : Table16

abbrev pub placed : Scope → List Local → Table16 → Placed
placed s locals t = record { scope = s; locals = locals; table = t }

abbrev pub placed_in : Syntax16 → Decl16 → List Placed
placed_in syntax (decl.Control c) =
    map (placed (control_scope (scope_of syntax (decl.Control c)) c) c.locals) (tables_in c)
placed_in syntax _ = []

abbrev pub placed_tables : Syntax16 → List Placed
placed_tables syntax = flat_map (placed_in syntax) syntax.decls

abbrev pub table_with : List Placed → Name → Option Placed
table_with [] plane = None
table_with (p ∷ rest) plane = if bytes_eq (table_plane p.table) plane then Some p else table_with rest plane

-- the control-plane names of all tables and of all objects, in order
abbrev pub table_names : Syntax16 → List Name
table_names syntax = in_order (map table_plane (flat_map tables_of syntax.decls))

abbrev pub object_names : Syntax16 → List Name
object_names syntax = in_order (flat_map objects_of syntax.decls)

-- the number of a table, and that of an object
abbrev pub table_number : Syntax16 → Table16 → ℕ
table_number syntax t = place_among (table_names syntax) (table_plane t)

abbrev pub object_number : Syntax16 → Name → ℕ
object_number syntax plane = place_among (object_names syntax) plane

-- objects

-- what is declared as an object, with its control-plane name
pub record Object : Type 0 where
  pub plane : Name
  pub instance : Instance

abbrev pub own_object : Local → Option Object
own_object (local.Instance notes i) = Some (record { plane = plane_name notes (instance_name i); instance = i })
own_object _ = None

abbrev pub objects_in : Decl16 → List Object
objects_in (decl.Instance notes i) = record { plane = plane_name notes (instance_name i); instance = i } ∷ []
objects_in (decl.Control c) = filter_map own_object c.locals
objects_in _ = []

-- the object that a declaration at the top declares, if it does
abbrev pub top_object : Decl16 → Option Object
top_object (decl.Instance notes i) = Some (record { plane = plane_name notes (instance_name i); instance = i })
top_object _ = None

-- the control-plane name of the first of these objects that has this name
abbrev pub plane_among : List Object → Name → Option Name
plane_among [] text = None
plane_among (o ∷ rest) text = if bytes_eq (instance_name o.instance) text then Some o.plane else plane_among rest text

-- the control-plane name of the object that a name in a control means: one of the control's own, else one at the top
abbrev pub or_at_top : List Decl16 → Name → Option Name → Name
or_at_top ds text (Some plane) = plane
or_at_top ds text None = unwrap_or (plane_among (filter_map top_object ds) text) text

abbrev pub plane_of_object : List Decl16 → List Local → Name → Name
plane_of_object ds locals text = or_at_top ds text (plane_among (filter_map own_object locals) text)

-- keys

-- a kind that isn't known, which T9 refuses, counts as exact
abbrev pub kind_named : Name → KeyKind
kind_named text =
    if bytes_eq text (codes "ternary") then Ternary else if bytes_eq text (codes "lpm") then Lpm
    else if bytes_eq text (codes "range") then Range else Exact

-- a truth value is one bit
abbrev pub key_width : Kind → ℕ
key_width boolean = 1
key_width k = bits_in k

abbrev pub key_scope : Scope → Scope
key_scope s = record s { part = in_key }

abbrev pub key_spec : Scope → TableKey → KeySpec
key_spec s k = record { kind = kind_named k.kind; width = key_width (kind_of (key_scope s) k.exp) }

-- actions

-- the control-plane name of an action that a table lists, but for `NoAction`
abbrev pub listed_plane : Scope → ActionName → Option Name
listed_plane s (action_name.Declared text) = Some (action_plane s (action_name.Declared text))
listed_plane s action_name.NoAction = None

-- the control-plane names of a table's actions, in order, each once
abbrev pub planes_of : Scope → Table16 → List Name
planes_of s t = in_order (filter_map (listed_plane s) (actions_of t.properties))

-- the action with this control-plane name among those that a table lists
abbrev pub has_plane : Scope → Name → ActionName → Bool
has_plane s plane a = option_map_or (bytes_eq plane) (listed_plane s a) false

abbrev pub action_with : Scope → List ActionName → Name → ActionName
action_with s [] plane = action_name.NoAction
action_with s (a ∷ rest) plane = if has_plane s plane a then a else action_with s rest plane

abbrev pub handed_width : Handed → ℕ
handed_width h = bits_in h.kind

abbrev pub action_sig : Scope → Table16 → Name → ActionSig
action_sig s t plane = record {
  name = plane;
  widths = map handed_width (parameters_of s (action_with s (actions_of t.properties) plane));
}

-- tables

abbrev pub size_written : Literal16 → ℕ
size_written n = n.value

-- how many entries a table may have; a greater number counts as the greatest of 32 bits
abbrev pub table_size : Table16 → ℕ
table_size t = min (2 ^ 32 - 1) (option_map_or size_written (size_of t.properties) 1024)

-- the number of the direct counter that the name behind `counters` means
abbrev pub direct_number : Syntax16 → List Local → Name → ℕ
direct_number syntax locals text = object_number syntax (plane_of_object syntax.decls locals text)

abbrev pub direct_of : Syntax16 → List Local → Table16 → Option ℕ
direct_of syntax locals t = option_map (direct_number syntax locals) (counters_of t.properties)

abbrev pub table_sig : Syntax16 → List Local → Scope → Table16 → TableSig
table_sig syntax locals s t = record {
  name = table_plane t;
  keys = map (key_spec s) (keys_of t.properties);
  actions = map (action_sig s t) (planes_of s t);
  size = table_size t;
  direct = direct_of syntax locals t;
}

-- `packets_and_bytes` counts both, and so does what is no type of counters
abbrev pub counted_by : Member → CountKind
counted_by (member_of.CounterType Packets) = count_packets
counted_by (member_of.CounterType Bytes) = count_bytes
counted_by _ = Both

-- the cells of a direct counter are told by the entries of its table
abbrev pub shape_of : Instance → Shape
shape_of (instance.Counter size m text) = shape.Counter (counted_by m) (size_value size)
shape_of (instance.DirectCounter m text) = shape.Direct (counted_by m) 0
shape_of (instance.Register width size text) = shape.Register width.value (size_value size)
shape_of (instance.Meter size m text) = shape.Meter (size_value size)

abbrev pub shape_among : List Object → Name → Shape
shape_among [] plane = shape.Meter 0
shape_among (o ∷ rest) plane = if bytes_eq o.plane plane then shape_of o.instance else shape_among rest plane

abbrev pub object_sig : Syntax16 → Name → ObjectSig
object_sig syntax plane = record { name = plane; shape = shape_among (flat_map objects_in syntax.decls) plane }

-- the signature

abbrev pub placed_sig : Syntax16 → Placed → TableSig
placed_sig syntax p = table_sig syntax p.locals p.scope p.table

abbrev pub tables_in_order : Syntax16 → List Placed
tables_in_order syntax = filter_map (table_with (placed_tables syntax)) (table_names syntax)

unfoldable pub signature16 : Syntax16 → Signature
signature16 syntax = record {
  tables = map (placed_sig syntax) (tables_in_order syntax);
  objects = map (object_sig syntax) (object_names syntax);
}
