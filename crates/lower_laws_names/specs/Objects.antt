-- The objects that are written, each under `@name` of its name in P4_14 (this project's own; P4_14 1.0.5, "Counters",
-- "Meters", "Registers"; P4_16 1.2, "Control-plane API annotations"; `v1model.p4`, `counter`, `direct_counter`,
-- `meter`, `register`, `CounterType`, `MeterType`).
use Rattle.std.specs.Prelude.{ℕ, List, [], ◌∷◌, ◌++◌, filter_map, codes, Option, Some, None}
use Rattle.std.specs.Option.{option_map_or}
use Rattle.p414_syntax.specs.declared.objects.CounterType.{CounterType as CounterType14}
use Rattle.p414_syntax.specs.declared.objects.CounterType.TheVariants as type14
use Rattle.p414_syntax.specs.declared.objects.StateAttr.{StateAttr}
use Rattle.p414_syntax.specs.declared.syntax.Decl.{Decl}
use Rattle.p414_syntax.specs.declared.syntax.Decl.TheVariants as decl
use Rattle.p414_syntax.specs.declared.syntax.Sort.TheVariants as sort
use Rattle.p414_syntax.specs.Attributes.{counts_of, direct_table_of, width_of}
use Rattle.p414_syntax.specs.Names.{Name}
use Rattle.p414_syntax.specs.Cells.{literal_value}
use Rattle.p414_sem.specs.Signatures.{cells_of}
use Rattle.p414_sem.specs.Expanded.{Expanded}
use Rattle.p416_syntax.specs.declared.lexeme.Literal16.{Literal16}
use Rattle.p416_syntax.specs.declared.parts.Note.TheVariants as note
use Rattle.p416_syntax.specs.declared.parts.CounterType.TheVariants as counter_type
use Rattle.p416_syntax.specs.declared.parts.MeterType.TheVariants as meter_type
use Rattle.p416_syntax.specs.declared.parts.Member.{Member}
use Rattle.p416_syntax.specs.declared.parts.Member.TheVariants as member
use Rattle.p416_syntax.specs.declared.controls.Instance.{Instance}
use Rattle.p416_syntax.specs.declared.controls.Instance.TheVariants as instance
use Rattle.p416_syntax.specs.declared.program.Decl16.{Decl16}
use Rattle.p416_syntax.specs.declared.program.Decl16.TheVariants as decl16
use Rattle.p416_syntax.specs.Tree.{Exp16, literal}
use Rattle.lower_laws_names.specs.NewNames.{new_name}
use Rattle.lower_laws_names.specs.Types.{plain, type_decls}

-- a number of cells, as a literal of 32 bits
abbrev pub size_exp : ℕ → Exp16
size_exp n = let l : Literal16 = record { width = Some 32; value = n } in literal l

-- what a counter counts; what isn't told is both (P4_14, "Counters"; `v1model.p4`, `CounterType`)
abbrev pub counter_member : Option CounterType14 → Member
counter_member (Some type14.Packets) = member.CounterType counter_type.Packets
counter_member (Some type14.Bytes) = member.CounterType counter_type.Bytes
counter_member _ = member.CounterType counter_type.PacketsAndBytes

-- a meter of both is one of packets: no signature tells
abbrev pub meter_member : Option CounterType14 → Member
meter_member (Some type14.Bytes) = member.MeterType meter_type.Bytes
meter_member _ = member.MeterType meter_type.Packets

-- a counter: one of cells, or the direct one of a table
abbrev pub counter_instance : Name → List StateAttr → Option Name → Instance
counter_instance name attributes None = instance.Counter (size_exp (cells_of attributes)) (counter_member (counts_of attributes)) name
counter_instance name attributes (Some table) = instance.DirectCounter (counter_member (counts_of attributes)) name

-- an object under the name that the control plane knows
abbrev pub named_object : Name → Instance → Option Decl16
named_object plane i = Some (decl16.Instance (note.Name plane ∷ []) i)

-- what is written for a declaration, if it is one of an object
abbrev pub object_decl : List Decl → Decl → Option Decl16
object_decl ds (decl.Counter x) = named_object x.name (counter_instance (new_name ds sort.Object x.name) x.attributes (direct_table_of x.attributes))
object_decl ds (decl.Meter x) = named_object x.name (instance.Meter (size_exp (cells_of x.attributes)) (meter_member (counts_of x.attributes)) (new_name ds sort.Object x.name))
object_decl ds (decl.Register x) = named_object x.name (instance.Register (plain (option_map_or literal_value (width_of x.attributes) 0)) (size_exp (cells_of x.attributes)) (new_name ds sort.Object x.name))
object_decl ds _ = None

-- the objects, in the order of declaration
abbrev pub object_decls : List Decl → List Decl16
object_decls ds = filter_map (object_decl ds) ds

-- what stands before the blocks: types and objects
abbrev pub top_decls : List Decl → Expanded → List Decl16
top_decls ds x = type_decls ds x ++ object_decls ds

-- the names of the six blocks
abbrev pub block_names : List Name
block_names = codes "P" ∷ codes "V" ∷ codes "I" ∷ codes "E" ∷ codes "C" ∷ codes "D" ∷ []
