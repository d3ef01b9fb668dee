-- Which kind of the rules a kind of code is.
use Rattle.std.specs.Borrow.{Bor}
use Rattle.p416_syntax.specs.Kinds as rule
use Rattle.p416_names.specs.declared.kind.Enumeration.{Enumeration}
use Rattle.p416_names.specs.declared.kind.Enumeration.TheVariants as enumeration_of
use Rattle.p416_names.specs.declared.kind.ObjectKind.{ObjectKind}
use Rattle.p416_names.specs.declared.kind.ObjectKind.TheVariants as object_of
use Rattle.p416_names.specs.declared.kind.Kind.{Kind}
use Rattle.p416_names.specs.declared.kind.Kind.TheVariants as kind_of

-- the value that lies behind a reference
abbrev pub referred : {A : Type 0} → Bor A → A
referred reference = reference.now

abbrev pub seen_enumeration : Enumeration → rule.Enumeration
seen_enumeration enumeration_of.HashAlgorithm = rule.hash_algorithm
seen_enumeration enumeration_of.CounterType = rule.counter_type
seen_enumeration enumeration_of.MeterType = rule.meter_type
seen_enumeration enumeration_of.CloneType = rule.clone_type

abbrev pub seen_object : ObjectKind → rule.ObjectKind
seen_object object_of.Counter = rule.counter
seen_object object_of.DirectCounter = rule.direct_counter
seen_object object_of.Register = rule.register
seen_object object_of.Meter = rule.meter

abbrev pub seen_kind : Kind → rule.Kind
seen_kind (kind_of.Bits w) = rule.bits w
seen_kind kind_of.Unsized = rule.unsized
seen_kind kind_of.Boolean = rule.boolean
seen_kind kind_of.ErrorCode = rule.error_code
seen_kind (kind_of.Header type) = rule.header type.now
seen_kind (kind_of.Stack type size) = rule.stack type.now size
seen_kind (kind_of.Struct type) = rule.struct type.now
seen_kind kind_of.PacketIn = rule.packet_in
seen_kind kind_of.PacketOut = rule.packet_out
seen_kind kind_of.Errors = rule.errors
seen_kind (kind_of.Enumeration e) = rule.enumeration (seen_enumeration e)
seen_kind (kind_of.OneOf e) = rule.one_of (seen_enumeration e)
seen_kind kind_of.Table = rule.table
seen_kind kind_of.Applied = rule.applied
seen_kind (kind_of.Object o) = rule.object (seen_object o)
seen_kind kind_of.Items = rule.items
seen_kind kind_of.Nothing = rule.nothing
seen_kind kind_of.Unknown = rule.unknown
