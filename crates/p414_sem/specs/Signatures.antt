-- The signature: what a control plane sees of a program, its tables and its stateful objects, both by the octet order of
-- their names (P4_14 1.0.5, "Table Declarations", "Counters", "Meters", "Registers", "Actions"; the order, the width of
-- a parameter and the size of a table that gives none are this project's own).
use Rattle.std.specs.Prelude.{ℕ, zero, suc, ◌+◌, ◌-◌, ◌^◌, min, max, Bool, true, false, ◌&&◌, ◌==◌, if◌then◌else◌, List, [], ◌∷◌, length, map, flat_map, filter_map, slice_get, fold, Option, Some, None, codes, option_map, option_and_then}
use Rattle.std.specs.Option.{option_map_or}
use Rattle.std.specs.Str.{bytes_eq}
use Rattle.p414_syntax.specs.declared.lexeme.Literal.{Literal}
use Rattle.state_store.specs.declared.shapes.Kind.{Kind}
use Rattle.state_store.specs.declared.shapes.Kind.TheVariants.{Packets as count_packets, Bytes as count_bytes, Both}
use Rattle.state_store.specs.declared.shapes.Shape.{Shape}
use Rattle.state_store.specs.declared.shapes.Shape.TheVariants as shape
use Rattle.match_core.specs.declared.signatures.KeyKind.{KeyKind}
use Rattle.match_core.specs.declared.signatures.KeyKind.TheVariants.{Exact, Ternary, Lpm, Range}
use Rattle.match_core.specs.declared.signatures.KeySpec.{KeySpec}
use Rattle.match_core.specs.declared.signatures.ActionSig.{ActionSig}
use Rattle.match_core.specs.declared.signatures.TableSig.{TableSig}
use Rattle.match_core.specs.declared.signatures.ObjectSig.{ObjectSig}
use Rattle.match_core.specs.declared.signatures.Signature.{Signature}
use Rattle.p414_syntax.specs.declared.actions.Action.{Action}
use Rattle.p414_syntax.specs.declared.tables.ReadKey.{ReadKey}
use Rattle.p414_syntax.specs.declared.tables.ReadKey.TheVariants as read_key
use Rattle.p414_syntax.specs.declared.tables.Read.{Read}
use Rattle.p414_syntax.specs.declared.tables.Table.{Table}
use Rattle.p414_syntax.specs.declared.objects.CounterType.{CounterType}
use Rattle.p414_syntax.specs.declared.objects.CounterType.TheVariants.{Packets, Bytes, PacketsAndBytes}
use Rattle.p414_syntax.specs.declared.objects.StateAttr.{StateAttr}
use Rattle.p414_syntax.specs.declared.syntax.Decl.{Decl}
use Rattle.p414_syntax.specs.declared.syntax.Decl.TheVariants as decl
use Rattle.p414_syntax.specs.declared.syntax.Sort.TheVariants as sort
use Rattle.p414_syntax.specs.Attributes.{reads_of, size_of, max_size_of, counts_of, direct_table_of, instance_count_of, width_of}
use Rattle.p414_syntax.specs.declared.place.ArgumentPlace.{ArgumentPlace}
use Rattle.p414_syntax.specs.declared.place.ArgumentPlace.TheVariants as place
use Rattle.p414_syntax.specs.Names.{Name, has_name, names_in, declaration_of}
use Rattle.p414_syntax.specs.Primitives.{clones}
use Rattle.p414_syntax.specs.Cells.{literal_value, cell_count}
use Rattle.p414_syntax.specs.Arguments.{Argument, field_argument, parameter_argument, name_argument, Invocation, PlacedArgument, invocations_of, actions, action_number, placed_in}
use Rattle.p414_syntax.specs.Tables.{tables, table_number, listed_in}
use Rattle.p414_sem.specs.Slots.{bits_of_ref}
use Rattle.p414_sem.specs.Operations.{in_order, object_number}

-- the width of a parameter

-- the primitives whose arguments of kind `Unsigned` are an index or a session, which has 32 bits
abbrev pub indexed : List Name
indexed = codes "count" ∷ codes "register_read" ∷ codes "register_write" ∷ codes "execute_meter" ∷ clones

-- the bits of the field that a call writes
abbrev pub target_bits : List Decl → PlacedArgument → Option ℕ
target_bits ds a = bits_at a.wanted a.argument where
  bits_at : ArgumentPlace → Argument → Option ℕ
  bits_at place.Target (field_argument r) = Some (bits_of_ref ds r)
  bits_at _ _ = None

abbrev pub register_in : Decl → Option Literal
register_in (decl.Register x) = width_of x.attributes
register_in _ = None

abbrev pub register_width : List Decl → Name → ℕ
register_width ds name = option_map_or literal_value (option_and_then register_in (declaration_of sort.Object ds name)) 0

-- the bits of the register that a call writes to
abbrev pub register_bits : List Decl → PlacedArgument → Option ℕ
register_bits ds a = bits_at a.wanted a.argument where
  bits_at : ArgumentPlace → Argument → Option ℕ
  bits_at place.Register (name_argument i) = Some (register_width ds i.name)
  bits_at _ _ = None

abbrev pub first_of : List ℕ → ℕ
first_of [] = 0
first_of (n ∷ ns) = n

abbrev pub is_unsigned : ArgumentPlace → Bool
is_unsigned place.Unsigned = true
is_unsigned _ = false

-- the bits that a primitive asks of a source: an index or a session has 32; a number for a register has the register's
-- bits; any other has the destination's
abbrev pub bits_asked : List Decl → Invocation → ArgumentPlace → ℕ
bits_asked ds i wanted =
    if is_unsigned wanted && has_name indexed i.callee then 32
    else if bytes_eq i.callee (codes "register_write") then first_of (filter_map (register_bits ds) (placed_in ds i))
    else first_of (filter_map (target_bits ds) (placed_in ds i))

abbrev pub is_use_of : ℕ → Argument → Bool
is_use_of p (parameter_argument n) = n == p
is_use_of p _ = false

-- The bits that the uses of the parameter p among arguments ask, of which the first stands at the place k. `inner` is
-- the width of the parameter at a place of the action that is called, if an action is called.
abbrev pub use_widths_from : (ℕ → ℕ) → ℕ → ℕ → List PlacedArgument → List ℕ
use_widths_from bits p k [] = []
use_widths_from bits p k (a ∷ rest) =
    if is_use_of p a.argument then bits k ∷ use_widths_from bits p (k + 1) rest else use_widths_from bits p (k + 1) rest

abbrev pub wanted_at : List PlacedArgument → ℕ → ArgumentPlace
wanted_at arguments k = option_map_or (λ (a : PlacedArgument). a.wanted) (slice_get arguments k) place.Source

abbrev pub use_width : List Decl → (ℕ → ℕ → ℕ) → Invocation → Option ℕ → ℕ → ℕ
use_width ds inner i (Some callee) k = inner callee k
use_width ds inner i None k = bits_asked ds i (wanted_at (placed_in ds i) k)

abbrev pub use_widths : List Decl → (ℕ → ℕ → ℕ) → ℕ → Invocation → List ℕ
use_widths ds inner p i = use_widths_from (use_width ds inner i (action_number ds i.callee)) p 0 (placed_in ds i)

-- the greatest of these, and 8 where there is none
abbrev pub greatest : List ℕ → ℕ
greatest [] = 8
greatest (n ∷ ns) = fold max n ns

abbrev pub calls_of : List Decl → ℕ → List Invocation
calls_of ds action = option_map_or invocations_of (slice_get (actions ds) action) []

-- The width of the parameter p of an action: the greatest that its uses ask. No action calls itself, so a chain of calls
-- has each action once at most, and is no longer than the number of actions.
abbrev pub width_within : List Decl → ℕ → ℕ → ℕ → ℕ
width_within ds zero action p = 8
width_within ds (suc calls) action p =
    greatest (flat_map (use_widths ds (width_within ds calls) p) (calls_of ds action))

abbrev pub parameter_width : List Decl → ℕ → ℕ → ℕ
parameter_width ds action p = width_within ds (length (actions ds)) action p

-- the widths of so many parameters, of which the first has the number p
abbrev pub widths_from : List Decl → ℕ → ℕ → List Name → List ℕ
widths_from ds action p [] = []
widths_from ds action p (name ∷ names) = parameter_width ds action p ∷ widths_from ds action (p + 1) names

abbrev pub parameter_widths : List Decl → ℕ → List ℕ
parameter_widths ds action = option_map_or (λ (a : Action). widths_from ds action 0 a.parameters) (slice_get (actions ds) action) []

-- tables

-- a key of kind valid is one bit that is matched exactly; a kind that isn't known, which C11 refuses, counts as exact
abbrev pub kind_named : Name → KeyKind
kind_named name =
    if bytes_eq name (codes "ternary") then Ternary
    else if bytes_eq name (codes "lpm") then Lpm
    else if bytes_eq name (codes "range") then Range
    else Exact

abbrev pub key_spec : List Decl → Read → KeySpec
key_spec ds r = spec_of r.key where
  spec_of : ReadKey → KeySpec
  spec_of (read_key.Field f) = record { kind = kind_named r.kind; width = bits_of_ref ds f }
  spec_of (read_key.Instance i) = record { kind = Exact; width = 1 }

-- the names of the actions of a table, in the order of their octets, each once
abbrev pub actions_in_order : Table → List Name
actions_in_order t = in_order (listed_in t)

abbrev pub action_sig : List Decl → Name → ActionSig
action_sig ds name = record { name = name; widths = option_map_or (parameter_widths ds) (action_number ds name) [] }

-- how many entries a table may have; a greater number counts as the greatest of 32 bits
abbrev pub table_size : Table → ℕ
table_size t = min (2 ^ 32 - 1) (size_by (size_of t.attributes) (max_size_of t.attributes)) where
  size_by : Option Literal → Option Literal → ℕ
  size_by (Some n) most = n.value
  size_by None (Some n) = n.value
  size_by None None = 1024

-- the counter that counts the entries of the table with this name
abbrev pub counts_entries_of : Name → Decl → Option Name
counts_entries_of table (decl.Counter x) = counted (direct_table_of x.attributes) where
  counted : Option Name → Option Name
  counted (Some t) = if bytes_eq t table then Some x.name else None
  counted None = None
counts_entries_of table _ = None

abbrev pub first_name : List Name → Option Name
first_name [] = None
first_name (name ∷ names) = Some name

abbrev pub direct_counter : List Decl → Name → Option ℕ
direct_counter ds table = option_map (object_number ds) (first_name (filter_map (counts_entries_of table) ds))

abbrev pub table_sig : List Decl → Table → TableSig
table_sig ds t = record {
  name = t.name;
  keys = map (key_spec ds) (reads_of t.attributes);
  actions = map (action_sig ds) (actions_in_order t);
  size = table_size t;
  direct = direct_counter ds t.name;
}

-- the table with a name
abbrev pub table_of : List Decl → Name → Option Table
table_of ds name = option_and_then (slice_get (tables ds)) (table_number ds name)

abbrev pub tables_in_order : List Decl → List Table
tables_in_order ds = filter_map (table_of ds) (in_order (names_in sort.Table ds))

-- objects

abbrev pub kind_of : Option CounterType → Kind
kind_of (Some Packets) = count_packets
kind_of (Some Bytes) = count_bytes
kind_of (Some PacketsAndBytes) = Both
kind_of None = Both

abbrev pub cells_of : List StateAttr → ℕ
cells_of attributes = cell_count (instance_count_of attributes)

-- the cells of a direct counter are told by the entries of its table
abbrev pub counter_shape : List StateAttr → Option Name → Shape
counter_shape attributes (Some table) = shape.Direct (kind_of (counts_of attributes)) 0
counter_shape attributes None = shape.Counter (kind_of (counts_of attributes)) (cells_of attributes)

abbrev pub shape_in : Decl → Shape
shape_in (decl.Counter x) = counter_shape x.attributes (direct_table_of x.attributes)
shape_in (decl.Register x) = shape.Register (option_map_or literal_value (width_of x.attributes) 0) (cells_of x.attributes)
shape_in (decl.Meter x) = shape.Meter (cells_of x.attributes)
shape_in _ = shape.Meter 0

abbrev pub object_sig : List Decl → Name → ObjectSig
object_sig ds name =
    record { name = name; shape = option_map_or shape_in (declaration_of sort.Object ds name) (shape.Meter 0) }

-- the signature
unfoldable pub signature14 : List Decl → Signature
signature14 ds = record {
  tables = map (table_sig ds) (tables_in_order ds);
  objects = map (object_sig ds) (in_order (names_in sort.Object ds));
}
