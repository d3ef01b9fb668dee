-- What a P4_14 program of the one-table form becomes keeps the rules of P4_16.
use Rattle.std.proofs.Common.{◌≡◌, refl, ap, ◌∙◌, ℕ, ◌%◌, Bool, true, not, List, [], ◌∷◌, ◌++◌, length, map, ◌||◌}
use Rattle.std.specs.Prelude.{◌&&◌, ◌==◌, nat_le, nat_eq, codes, sum_by}
use Rattle.std.specs.List.{list_all, list_any}
use Rattle.std.specs.Str.{bytes_eq}
use Rattle.std.proofs.lemmas.Bool.{and_parts, and_from}
use Rattle.std.proofs.lemmas.List.{length-map}
use Rattle.state_store.specs.Ports.{drop_port}
use Rattle.p416_syntax.specs.Breaks.{BreaksNone, program_rules}
use Rattle.p414_one_table.specs.declared.program.Field.{Field}
use Rattle.p414_one_table.specs.declared.program.OneTable14.{OneTable14}
use Rattle.p414_one_table.specs.Programs.{is_one_table, are_fields, is_id, is_width, repeats}
use Rattle.one_table_text.specs.Lawful.{has_width, is_header, is_lawful}
use Rattle.one_table_text.proofs.Rules.{breaks_none}
use Rattle.one_table_text.specs.Programs.{program16}
use Rattle.p4x_cmd.specs.internal.Lowering.{lowered, lowered_field}
use Rattle.p4x_cmd.proofs.Sizes.{lowered_sum}

widths_are : (fields : List Field) → list_all (λ f. is_id f.name && is_width f.width) fields ≡ true → list_all has_width (map lowered_field fields) ≡ true
widths_are [] h = refl
widths_are (f ∷ fields) h =
    let parts = and_parts (is_id f.name && is_width f.width) (list_all (λ (g : Field). is_id g.name && is_width g.width) fields) h in
    and_from (has_width (lowered_field f)) (list_all has_width (map lowered_field fields)) (and_parts (is_id f.name) (is_width f.width) parts.0).1 (widths_are fields parts.1)

among_is : (n : List ℕ) (fields : List Field) → list_any (λ other. bytes_eq (codes "f_" ++ n) other.name) (map lowered_field fields) ≡ list_any (λ other. bytes_eq n other.name) fields
among_is n [] = refl
among_is n (f ∷ fields) = ap (λ (b : Bool). bytes_eq n f.name || b) (among_is n fields)

-- names that differ differ with `f_` in front
repeats_is : (fields : List Field) → repeats (map lowered_field fields) ≡ repeats fields
repeats_is [] = refl
repeats_is (f ∷ fields) = rw (among_is f.name fields, repeats_is fields) refl

header_is : (fields : List Field) → are_fields fields ≡ true → is_header (map lowered_field fields) ≡ true
header_is fields h =
    let count = nat_le 1 (length fields) && nat_le (length fields) 64 in
    let named = list_all (λ (f : Field). is_id f.name && is_width f.width) fields in
    let last = and_parts (count && named && not (repeats fields)) (sum_by (λ (f : Field). f.width) fields % 8 == 0) h in
    let third = and_parts (count && named) (not (repeats fields)) last.0 in
    let second = and_parts count named third.0 in
    let all = map lowered_field fields in
    let sound = nat_eq (sum_by (λ (f : Field). f.width) all % 8) 0 in
    and_from (nat_le 1 (length all) && nat_le (length all) 64) (list_all has_width all && (not (repeats all) && sound))
    (ap (λ (n : ℕ). nat_le 1 n && nat_le n 64) (length-map fields lowered_field) ∙ second.0)
    (and_from (list_all has_width all) (not (repeats all) && sound) (widths_are fields second.1)
    (and_from (not (repeats all)) sound (ap (λ (b : Bool). not b) (repeats_is fields) ∙ third.1)
    (ap (λ (n : ℕ). nat_eq (n % 8) 0) (lowered_sum fields) ∙ last.1)))

pub lawful_is : (p : OneTable14) → is_one_table p ≡ true → is_lawful (lowered p) ≡ true
lawful_is p h =
    let to_table = and_parts (are_fields p.fields && is_id p.action && nat_le p.port drop_port) (is_id p.table) h in
    let to_port = and_parts (are_fields p.fields && is_id p.action) (nat_le p.port drop_port) to_table.0 in
    let to_action = and_parts (are_fields p.fields) (is_id p.action) to_port.0 in
    and_from (is_header (map lowered_field p.fields)) (nat_le p.port drop_port) (header_is p.fields to_action.0) to_port.1

-- the translation of a program of the form breaks no rule
pub keeps_rules : (p : OneTable14) → is_one_table p ≡ true → BreaksNone (program16 (lowered p)) program_rules
keeps_rules p h = breaks_none (lowered p) (lawful_is p h)
