-- Actions of a program: some are apart, and some are not.
use Rattle.std.proofs.Common.{◌≡◌, ℕ, Bool, true, false, None, List, [], ◌∷◌, refl}
use Rattle.std.specs.Prelude.{codes}
use Rattle.p414_syntax.specs.declared.lexeme.Literal.{Literal}
use Rattle.p414_syntax.specs.declared.headers.FieldWidth.TheVariants.{Bits}
use Rattle.p414_syntax.specs.declared.headers.Field.{Field}
use Rattle.p414_syntax.specs.declared.objects.StateAttr.TheVariants as state_attr
use Rattle.p414_syntax.specs.declared.objects.CounterType.TheVariants as counter_type
use Rattle.p414_syntax.specs.declared.calculations.Item.{Item}
use Rattle.p414_syntax.specs.declared.calculations.Item.TheVariants as item
use Rattle.p414_syntax.specs.declared.syntax.Decl.{Decl}
use Rattle.p414_syntax.specs.declared.syntax.Decl.TheVariants as decl
use Rattle.p414_syntax.specs.Tree.{no_statements}
use Rattle.p414_syntax.specs.Names.{Name}
use Rattle.p414_syntax.specs.Arguments.{Argument, number_argument, field_argument, parameter_argument, name_argument, Invocation}
use Rattle.p414_sem.specs.Expanded.{Expanded}
use Rattle.lower_laws_actions.specs.Apart.{are_apart}
use Rattle.lower_laws_actions.specs.Runs.{primitives_of}

abbrev plain : ℕ → Literal
plain n = record { width = None; value = n }

abbrev bits_field : Name → ℕ → Field
bits_field name width = record { name = name; width = Bits (plain width); attributes = [] }

abbrev key_items : List Item
key_items = item.Field (record { instance = record { name = codes "ipv4"; index = None }; field = codes "src" }) ∷ item.Field (record { instance = record { name = codes "ipv4"; index = None }; field = codes "dst" }) ∷ []

abbrev ds : List Decl
ds =
    decl.HeaderType (record { name = codes "ethernet_t"; fields = bits_field (codes "dst") 48 ∷ bits_field (codes "src") 48 ∷ bits_field (codes "kind") 16 ∷ []; tails = [] })
    ∷ decl.Header (record { header_type = codes "ethernet_t"; name = codes "ethernet"; size = None })
    ∷ decl.Header (record { header_type = codes "ethernet_t"; name = codes "inner"; size = None })
    ∷ decl.HeaderType (record { name = codes "ipv4_t"; fields = bits_field (codes "ttl") 8 ∷ bits_field (codes "src") 32 ∷ bits_field (codes "dst") 32 ∷ []; tails = [] })
    ∷ decl.Header (record { header_type = codes "ipv4_t"; name = codes "ipv4"; size = None })
    ∷ decl.HeaderType (record { name = codes "vlan_t"; fields = bits_field (codes "vid") 12 ∷ []; tails = [] })
    ∷ decl.Header (record { header_type = codes "vlan_t"; name = codes "vlan"; size = None })
    ∷ decl.HeaderType (record { name = codes "meta_t"; fields = bits_field (codes "path") 14 ∷ bits_field (codes "seen") 32 ∷ bits_field (codes "colour") 8 ∷ []; tails = [] })
    ∷ decl.Metadata (record { header_type = codes "meta_t"; name = codes "meta"; initials = None })
    ∷ decl.Register (record { name = codes "last"; attributes = state_attr.Width (plain 32) ∷ state_attr.InstanceCount (plain 64) ∷ [] })
    ∷ decl.Register (record { name = codes "first"; attributes = state_attr.Width (plain 32) ∷ state_attr.InstanceCount (plain 64) ∷ [] })
    ∷ decl.Counter (record { name = codes "hits"; attributes = state_attr.Counts counter_type.Packets ∷ state_attr.InstanceCount (plain 64) ∷ [] })
    ∷ decl.Meter (record { name = codes "rate"; attributes = state_attr.Counts counter_type.Bytes ∷ state_attr.InstanceCount (plain 4) ∷ [] })
    ∷ decl.FieldList (record { name = codes "key"; items = key_items })
    ∷ decl.FieldListCalculation (record { name = codes "path_of"; input = codes "key" ∷ []; algorithm = codes "crc16"; output_width = plain 14 })
    ∷ []

abbrev x : Expanded
x = record { actions = []; lists = key_items ∷ []; ingress = no_statements; egress = no_statements; order = [] }

-- what stands in calls

abbrev field_of : Name → Name → Argument
field_of instance field = field_argument (record { instance = record { name = instance; index = None }; field = field })

abbrev named : Name → Argument
named name = name_argument (record { name = name; index = None })

abbrev plain_number : ℕ → Argument
plain_number n = number_argument (record { sign = None; literal = plain n })

abbrev called : Name → List Argument → Invocation
called callee arguments = record { callee = callee; arguments = arguments }

abbrev are_apart_in : List Invocation → Bool
are_apart_in calls = are_apart ds (primitives_of ds x calls)

-- A router's: the port of a parameter, the time to live less 1, and two addresses. No copies are needed.
abbrev route : List Invocation
route =
    called (codes "modify_field") (field_of (codes "standard_metadata") (codes "egress_spec") ∷ parameter_argument 0 ∷ [])
    ∷ called (codes "subtract_from_field") (field_of (codes "ipv4") (codes "ttl") ∷ plain_number 1 ∷ [])
    ∷ called (codes "modify_field") (field_of (codes "ethernet") (codes "src") ∷ field_of (codes "ethernet") (codes "dst") ∷ [])
    ∷ called (codes "modify_field") (field_of (codes "ethernet") (codes "dst") ∷ parameter_argument 1 ∷ [])
    ∷ []

route_apart : are_apart_in route ≡ true
route_apart = refl

-- Two fields that change places: the second primitive reads what the first one writes.
abbrev swap : List Invocation
swap =
    called (codes "modify_field") (field_of (codes "ethernet") (codes "src") ∷ field_of (codes "ethernet") (codes "dst") ∷ [])
    ∷ called (codes "modify_field") (field_of (codes "ethernet") (codes "dst") ∷ field_of (codes "ethernet") (codes "src") ∷ [])
    ∷ []

swap_not_apart : are_apart_in swap ≡ false
swap_not_apart = refl

-- A header is added, and a field of it written: the write asks whether the header is valid.
abbrev tag : List Invocation
tag =
    called (codes "add_header") (named (codes "vlan") ∷ [])
    ∷ called (codes "modify_field") (field_of (codes "vlan") (codes "vid") ∷ parameter_argument 0 ∷ [])
    ∷ []

tag_not_apart : are_apart_in tag ≡ false
tag_not_apart = refl

-- A longer one: a header is copied over another and removed, a register is read and another written, a hash, a count, a
-- meter, a clone, and the packet dropped.
abbrev leave : List Invocation
leave =
    called (codes "copy_header") (named (codes "ethernet") ∷ named (codes "inner") ∷ [])
    ∷ called (codes "remove_header") (named (codes "inner") ∷ [])
    ∷ called (codes "register_read") (field_of (codes "meta") (codes "seen") ∷ named (codes "last") ∷ field_of (codes "ipv4") (codes "ttl") ∷ [])
    ∷ called (codes "modify_field_with_hash_based_offset") (field_of (codes "meta") (codes "path") ∷ plain_number 0 ∷ named (codes "path_of") ∷ plain_number 16 ∷ [])
    ∷ called (codes "register_write") (named (codes "first") ∷ plain_number 3 ∷ field_of (codes "ipv4") (codes "src") ∷ [])
    ∷ called (codes "count") (named (codes "hits") ∷ field_of (codes "ipv4") (codes "ttl") ∷ [])
    ∷ called (codes "execute_meter") (named (codes "rate") ∷ plain_number 0 ∷ field_of (codes "meta") (codes "colour") ∷ [])
    ∷ called (codes "clone_ingress_pkt_to_egress") (plain_number 5 ∷ [])
    ∷ called (codes "add_to_field") (field_of (codes "ipv4") (codes "ttl") ∷ plain_number 1 ∷ [])
    ∷ called (codes "drop") []
    ∷ []

leave_apart : are_apart_in leave ≡ true
leave_apart = refl

-- A register that was written is read.
abbrev remember : List Invocation
remember =
    called (codes "register_write") (named (codes "last") ∷ plain_number 3 ∷ field_of (codes "ipv4") (codes "src") ∷ [])
    ∷ called (codes "register_read") (field_of (codes "meta") (codes "seen") ∷ named (codes "last") ∷ plain_number 3 ∷ [])
    ∷ []

remember_not_apart : are_apart_in remember ≡ false
remember_not_apart = refl
