-- Words that are no new names (P4_16 1.2, "P4 grammar", "P4 core library"; `v1model.p4`; which fixed names the translated
-- text has is this project's own).
use Rattle.std.specs.Prelude.{List, [], ◌∷◌, ◌++◌, map, codes}
use Rattle.p416_syntax.specs.Keywords.{keyword_text16, all_keywords16}
use Rattle.p414_syntax.specs.Names.{Name}

-- the words that are reserved here
abbrev pub reserved : List Name
reserved = map keyword_text16 all_keywords16

-- Further words of P4_16, and those that name no member where they stand behind a dot.
abbrev pub further : List Name
further =
    codes "abstract" ∷ codes "const" ∷ codes "entries" ∷ codes "enum" ∷ codes "exit" ∷ codes "extern"
    ∷ codes "for" ∷ codes "header_union" ∷ codes "int" ∷ codes "match_kind" ∷ codes "package"
    ∷ codes "return" ∷ codes "string" ∷ codes "this" ∷ codes "tuple" ∷ codes "type" ∷ codes "typedef"
    ∷ codes "value_set" ∷ codes "valueset" ∷ codes "varbit" ∷ codes "void" ∷ codes "list" ∷ codes "priority" ∷ codes "pragma"
    ∷ codes "break" ∷ codes "continue" ∷ codes "isValid" ∷ codes "setValid" ∷ codes "setInvalid"
    ∷ codes "minSizeInBits" ∷ codes "minSizeInBytes" ∷ codes "push_front" ∷ codes "pop_front"
    ∷ codes "next" ∷ codes "last" ∷ codes "lastIndex" ∷ codes "hit" ∷ codes "miss" ∷ []

-- what `core.p4` and `v1model.p4` declare
abbrev pub built_in : List Name
built_in =
    codes "packet_in" ∷ codes "packet_out" ∷ codes "verify" ∷ codes "static_assert" ∷ codes "exact"
    ∷ codes "ternary" ∷ codes "lpm" ∷ codes "range" ∷ codes "optional" ∷ codes "selector"
    ∷ codes "standard_metadata_t" ∷ codes "PortId_t" ∷ codes "HashAlgorithm" ∷ codes "CounterType"
    ∷ codes "MeterType" ∷ codes "CloneType" ∷ codes "direct_meter" ∷ codes "action_profile"
    ∷ codes "action_selector" ∷ codes "Checksum16" ∷ codes "random" ∷ codes "digest" ∷ codes "hash"
    ∷ codes "mark_to_drop" ∷ codes "verify_checksum" ∷ codes "update_checksum"
    ∷ codes "verify_checksum_with_payload" ∷ codes "update_checksum_with_payload" ∷ codes "clone"
    ∷ codes "clone3" ∷ codes "clone_preserving_field_list" ∷ codes "resubmit"
    ∷ codes "resubmit_preserving_field_list" ∷ codes "recirculate"
    ∷ codes "recirculate_preserving_field_list" ∷ codes "truncate" ∷ codes "assert" ∷ codes "assume"
    ∷ codes "log_msg" ∷ codes "Parser" ∷ codes "VerifyChecksum" ∷ codes "Ingress" ∷ codes "Egress"
    ∷ codes "ComputeChecksum" ∷ codes "Deparser" ∷ []

-- the names that each translated text has: blocks, structs, parameters of blocks and variables of controls
abbrev pub fixed : List Name
fixed =
    codes "P" ∷ codes "V" ∷ codes "I" ∷ codes "E" ∷ codes "C" ∷ codes "D" ∷ codes "hs" ∷ codes "ms"
    ∷ codes "packet" ∷ codes "hdr" ∷ codes "meta" ∷ codes "sm" ∷ codes "old_hdr" ∷ codes "old_meta"
    ∷ codes "old_sm" ∷ []

-- the words that are no name anywhere
abbrev pub words : List Name
words = reserved ++ further

-- the words that are no name but that of a member
abbrev pub outer_words : List Name
outer_words = built_in ++ fixed
