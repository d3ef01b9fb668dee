-- What `core.p4` and `v1model.p4` declare: types, enumerations and functions (which of them there are is this project's
-- own).
use Rattle.std.specs.Prelude.{List, [], ◌∷◌, map, codes}
use Rattle.p416_syntax.specs.Names.{Name}
use Rattle.p416_syntax.specs.Kinds.{Enumeration, hash_algorithm, counter_type, meter_type, clone_type, bits, error_code, struct, packet_in, packet_out}
use Rattle.p416_syntax.specs.Scopes.{a_type, an_enumeration, a_function, Known, known, FieldKind, Layout}
use Rattle.p416_syntax.specs.Kinds.{Kind}

-- the names of the functions
abbrev pub functions : List Name
functions =
    codes "mark_to_drop" ∷ codes "hash" ∷ codes "verify_checksum" ∷ codes "update_checksum"
    ∷ codes "verify_checksum_with_payload" ∷ codes "update_checksum_with_payload"
    ∷ codes "clone_preserving_field_list" ∷ codes "resubmit_preserving_field_list"
    ∷ codes "recirculate_preserving_field_list" ∷ []

abbrev pub standard_name : Name
standard_name = codes "standard_metadata_t"

-- the standard metadata as a kind of values
abbrev pub standard : Kind
standard = struct standard_name

abbrev pub built_in : List Known
built_in =
    known (a_type packet_in) (codes "packet_in") ∷ known (a_type packet_out) (codes "packet_out")
    ∷ known (a_type standard) standard_name
    ∷ known (an_enumeration hash_algorithm) (codes "HashAlgorithm")
    ∷ known (an_enumeration counter_type) (codes "CounterType")
    ∷ known (an_enumeration meter_type) (codes "MeterType") ∷ known (an_enumeration clone_type) (codes "CloneType")
    ∷ map (known a_function) functions

-- the members of the enumerations, and of `error`
abbrev pub members_of : Enumeration → List Name
members_of hash_algorithm = codes "csum16" ∷ codes "crc16" ∷ codes "crc32" ∷ codes "identity" ∷ []
members_of counter_type = codes "packets" ∷ codes "bytes" ∷ codes "packets_and_bytes" ∷ []
members_of meter_type = codes "packets" ∷ codes "bytes" ∷ []
members_of clone_type = codes "I2E" ∷ codes "E2E" ∷ []

abbrev pub error_names : List Name
error_names = codes "NoError" ∷ codes "PacketTooShort" ∷ codes "StackOutOfBounds" ∷ codes "NoMatch" ∷ []

-- the fields of `standard_metadata_t`
abbrev pub field : Kind → Name → FieldKind
field kind called = record { called = called; kind = kind }

abbrev pub standard_layout : Layout
standard_layout = record {
  called = standard_name;
  fields =
      field (bits 9) (codes "ingress_port") ∷ field (bits 9) (codes "egress_spec") ∷ field (bits 9) (codes "egress_port")
      ∷ field (bits 32) (codes "packet_length") ∷ field (bits 32) (codes "instance_type")
      ∷ field error_code (codes "parser_error") ∷ field (bits 1) (codes "checksum_error") ∷ [];
}
