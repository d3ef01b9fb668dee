-- The syntax of a program of the form is one that a text can have.
use Rattle.std.proofs.Common.{◌≡◌, ◌^◌, Bool, true, List, [], ◌∷◌, ◌++◌, refl, map, drop}
use Rattle.std.specs.Prelude.{◌&&◌, nat_lt}
use Rattle.std.specs.List.{list_all, flat_map}
use Rattle.std.proofs.lemmas.Bool.{and_parts, and_from}
use Rattle.p416_syntax.specs.SpeltLexemes.{is_identifier16, is_name16}
use Rattle.p416_syntax.specs.Tokens.{Seen16, is_spelt_seen, brace_close}
use Rattle.p416_syntax.specs.Written.{written_bit_field, written_decl, written_main, written}
use Rattle.p416_syntax.specs.Conditions.{is_syntax, without_parentheses}
use Rattle.p416_syntax.specs.Spelt.{is_spelt16}
use Rattle.p414_one_table.specs.declared.program.Field.{Field}
use Rattle.one_table_text.specs.declared.one_table.OneTable16.{OneTable16}
use Rattle.one_table_text.specs.Programs.{is_field16, is_one_table16, bit_field, decls16, program16}

abbrev are_spelt : List Seen16 → Bool
are_spelt seen = list_all is_spelt_seen seen

abbrev field_tokens : List Field → List Seen16
field_tokens fields = flat_map written_bit_field (map bit_field fields)

fields_spelt : (fields : List Field) → list_all is_field16 fields ≡ true → are_spelt (field_tokens fields) ≡ true
fields_spelt [] h = refl
fields_spelt (f ∷ fields) h =
    let parts = and_parts (is_field16 f) (list_all is_field16 fields) h in
    let both = and_parts (is_name16 f.name) (nat_lt f.width (2 ^ 128)) parts.0 in
    and_from (nat_lt f.width (2 ^ 128)) (is_name16 f.name && are_spelt (field_tokens fields)) both.1
    (and_from (is_name16 f.name) (are_spelt (field_tokens fields)) both.0 (fields_spelt fields parts.1))

-- the fields end with a brace, and more declarations and `main` stand behind it
header_spelt : (fields decls main : List Seen16) → are_spelt fields ≡ true → are_spelt (decls ++ main) ≡ true
    → are_spelt (((fields ++ brace_close ∷ []) ++ decls) ++ main) ≡ true
header_spelt [] decls main h behind = behind
header_spelt (t ∷ fields) decls main h behind =
    let parts = and_parts (is_spelt_seen t) (are_spelt fields) h in
    and_from (is_spelt_seen t) (are_spelt (((fields ++ brace_close ∷ []) ++ decls) ++ main)) parts.0
    (header_spelt fields decls main parts.1 behind)

-- all but the fields, two names and the port is closed
all_spelt : (q : OneTable16) → is_one_table16 q ≡ true → are_spelt (written (program16 q)) ≡ true
unfolding program16
all_spelt q h =
    let fields = and_parts (list_all is_field16 q.fields) (is_identifier16 q.action && (nat_lt q.port (2 ^ 128) && is_identifier16 q.table)) h in
    let action = and_parts (is_identifier16 q.action) (nat_lt q.port (2 ^ 128) && is_identifier16 q.table) fields.1 in
    let port = and_parts (nat_lt q.port (2 ^ 128)) (is_identifier16 q.table) action.1 in
    header_spelt (field_tokens q.fields) (flat_map written_decl (drop 1 (decls16 q))) (written_main (program16 q).main)
    (fields_spelt q.fields fields.0)
    (and_from (is_identifier16 q.action) (nat_lt q.port (2 ^ 128) && (is_identifier16 q.table && true)) action.0
    (and_from (nat_lt q.port (2 ^ 128)) (is_identifier16 q.table && true) port.0
    (and_from (is_identifier16 q.table) true port.1 refl)))

keeps_grammar : (q : OneTable16) → is_syntax without_parentheses (program16 q) ≡ true
unfolding program16
keeps_grammar q = refl

pub spelt_is : (q : OneTable16) → is_one_table16 q ≡ true → is_spelt16 (program16 q) ≡ true
spelt_is q h =
    and_from (is_syntax without_parentheses (program16 q)) (are_spelt (written (program16 q))) (keeps_grammar q) (all_spelt q h)
