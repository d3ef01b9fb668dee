-- What a P4_14 program of the one-table form becomes is a P4_16 program of the form: its names can stand in a text.
use Rattle.std.proofs.Common.{◌≡◌, refl, ℕ, ◌%◌, ◌^◌, true, List, [], ◌∷◌, ◌++◌, arith, length, map}
use Rattle.std.specs.Prelude.{◌&&◌, ◌==◌, not, nat_le, nat_lt, codes, sum_by, slice_index}
use Rattle.std.specs.List.{list_all}
use Rattle.std.proofs.lemmas.Bool.{and_parts, and_from, or_left, false≢true}
use Rattle.std.proofs.lemmas.Bool.Decides.{nat_tests}
use Rattle.state_store.specs.Ports.{drop_port}
use Rattle.token_division.specs.Octets.{is_letter, is_decimal, is_word}
use Rattle.p416_syntax.specs.Keywords.{is_reserved16}
use Rattle.p416_syntax.specs.SpeltLexemes.{is_identifier16, is_name16}
use Rattle.p414_one_table.specs.Programs.{is_one_table, are_fields, is_id, is_width, repeats}
use Rattle.p414_one_table.specs.declared.program.Field.{Field}
use Rattle.p414_one_table.specs.declared.program.OneTable14.{OneTable14}
use Rattle.one_table_text.specs.Programs.{is_field16, is_one_table16}
use Rattle.p4x_cmd.specs.internal.Lowering.{lowered, lowered_field}

-- a name of P4_14 is an identifier of P4_16
identifier_is : (o : List ℕ) → is_id o ≡ true → is_identifier16 o ≡ true
identifier_is [] h = absurd (false≢true h)
identifier_is (b ∷ o) h =
    let parts = and_parts (is_letter b) (list_all is_word o) h in
    and_from (is_letter b) (is_word b && list_all is_word o) parts.0
    (and_from (is_word b) (list_all is_word o) (or_left (is_letter b) (is_decimal b) parts.0) parts.1)

words_are : (o : List ℕ) → is_id o ≡ true → list_all is_word o ≡ true
words_are o h = (and_parts (is_letter (slice_index o 0)) (list_all is_word o) (identifier_is o h)).1

-- no reserved word begins with `f_`
lowered_name : (o : List ℕ) → is_id o ≡ true → is_name16 (codes "f_" ++ o) ≡ true
lowered_name o h = and_from (is_identifier16 (codes "f_" ++ o)) (not (is_reserved16 (codes "f_" ++ o))) (words_are o h) refl

width_fits : (w : ℕ) → is_width w ≡ true → nat_lt w (2 ^ 128) ≡ true
width_fits w h = let most : nat_le w 128 ≡ true = (and_parts (nat_le 1 w) (nat_le w 128) h).1 in grind (arith, nat_tests)

port_fits : (port : ℕ) → nat_le port drop_port ≡ true → nat_lt port (2 ^ 128) ≡ true
port_fits port h = grind (arith, nat_tests)

lowered_fields : (fields : List Field) → list_all (λ f. is_id f.name && is_width f.width) fields ≡ true → list_all is_field16 (map lowered_field fields) ≡ true
lowered_fields [] h = refl
lowered_fields (f ∷ fields) h =
    let parts = and_parts (is_id f.name && is_width f.width) (list_all (λ (g : Field). is_id g.name && is_width g.width) fields) h in
    let both = and_parts (is_id f.name) (is_width f.width) parts.0 in
    and_from (is_field16 (lowered_field f)) (list_all is_field16 (map lowered_field fields))
    (and_from (is_name16 (codes "f_" ++ f.name)) (nat_lt f.width (2 ^ 128)) (lowered_name f.name both.0) (width_fits f.width both.1))
    (lowered_fields fields parts.1)

named_fields : (fields : List Field) → are_fields fields ≡ true → list_all (λ f. is_id f.name && is_width f.width) fields ≡ true
named_fields fields h =
    let count = nat_le 1 (length fields) && nat_le (length fields) 64 in
    let named = list_all (λ (f : Field). is_id f.name && is_width f.width) fields in
    let sized = and_parts (count && named && not (repeats fields)) (sum_by (λ (f : Field). f.width) fields % 8 == 0) h in
    (and_parts count named (and_parts (count && named) (not (repeats fields)) sized.0).0).1

-- what a P4_14 program of the form becomes is a P4_16 program of the form
pub lowered_is_one_table16 : (p : OneTable14) → is_one_table p ≡ true → is_one_table16 (lowered p) ≡ true
lowered_is_one_table16 p h =
    let to_table = and_parts (are_fields p.fields && is_id p.action && nat_le p.port drop_port) (is_id p.table) h in
    let to_port = and_parts (are_fields p.fields && is_id p.action) (nat_le p.port drop_port) to_table.0 in
    let to_action = and_parts (are_fields p.fields) (is_id p.action) to_port.0 in
    and_from (list_all is_field16 (map lowered_field p.fields)) (is_identifier16 p.action && (nat_lt p.port (2 ^ 128) && is_identifier16 p.table))
    (lowered_fields p.fields (named_fields p.fields to_action.0))
    (and_from (is_identifier16 p.action) (nat_lt p.port (2 ^ 128) && is_identifier16 p.table) (identifier_is p.action to_action.1)
    (and_from (nat_lt p.port (2 ^ 128)) (is_identifier16 p.table) (port_fits p.port to_port.1) (identifier_is p.table to_table.1)))
