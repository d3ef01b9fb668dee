-- What the rules ask of a header's fields.
use Rattle.std.proofs.Common.{◌≡◌, refl, sym, ◌∙◌, ap, arith, ℕ, suc, ◌+◌, ◌*◌, ◌%◌, ◌≤◌, Bool, true, false, not, ◌&&◌, ◌||◌, nat_le, List, [], ◌∷◌, length, map}
use Rattle.std.specs.Prelude.{nat_lt, nat_eq, sum_by}
use Rattle.std.specs.List.{list_all, list_any}
use Rattle.std.specs.Str.{bytes_eq}
use Rattle.std.proofs.lemmas.Bool.{and_parts, leb-true}
use Rattle.std.proofs.lemmas.Bool.Decides.{nat_tests}
use Rattle.std.proofs.lemmas.List.Sums.{sum_by-cons}
use Rattle.p416_syntax.specs.declared.parts.BitField.{BitField}
use Rattle.p416_syntax.specs.Names.{has_name}
use Rattle.p416_syntax.specs.Names as names
use Rattle.p416_syntax.specs.Uses.{Use}
use Rattle.p416_syntax.specs.Scopes.{FieldKind}
use Rattle.p416_syntax.specs.Declarations.{field_name, field_width}
use Rattle.p416_syntax.specs.Declarations as declarations
use Rattle.p416_syntax.specs.Sizes.{has_bad_width, bits_of_field, leaves_size}
use Rattle.p416_syntax.specs.Totals.{field_bits}
use Rattle.p414_one_table.specs.declared.program.Field.{Field}
use Rattle.p414_one_table.specs.Programs.{repeats, is_width}
use Rattle.one_table_text.specs.Programs.{bit_field}
use Rattle.one_table_text.specs.Lawful.{has_width, is_header}

abbrev pub fields16 : List Field → List BitField
fields16 fields = map bit_field fields

pub or_false : (a b : Bool) → a ≡ false → b ≡ false → (a || b) ≡ false
or_false true b h k = h
or_false false b h k = k

not_is : (a : Bool) → not a ≡ true → a ≡ false
not_is true h = sym h
not_is false h = refl

-- names

name_among : (n : List ℕ) (fields : List Field) → has_name (map field_name (fields16 fields)) n ≡ list_any (λ f. bytes_eq n f.name) fields
name_among n [] = refl
name_among n (f ∷ fields) = ap (λ (b : Bool). bytes_eq n f.name || b) (name_among n fields)

names_differ : (fields : List Field) → names.repeats (map field_name (fields16 fields)) ≡ repeats fields
names_differ [] = refl
names_differ (f ∷ fields) = rw (name_among f.name fields, names_differ fields) refl

-- widths

width_good : (w : ℕ) → is_width w ≡ true → (nat_lt w 1 || nat_lt 128 w) ≡ false
width_good w h =
    let parts = and_parts (nat_le 1 w) (nat_le w 128) h in
    let low : nat_le 1 w ≡ true = parts.0 in
    let high : nat_le w 128 ≡ true = parts.1 in
    or_false (nat_lt w 1) (nat_lt 128 w) (grind (arith, nat_tests)) (grind (arith, nat_tests))

widths_good : (fields : List Field) → list_all has_width fields ≡ true → list_any has_bad_width (fields16 fields) ≡ false
widths_good [] h = refl
widths_good (f ∷ fields) h =
    let parts = and_parts (has_width f) (list_all has_width fields) h in
    or_false (has_bad_width (bit_field f)) (list_any has_bad_width (fields16 fields)) (width_good f.width parts.0) (widths_good fields parts.1)

-- a test that finds no width finds none among the fields
pub no_width : (test : Use → Bool) → ((f : Field) → test (field_width (bit_field f)) ≡ false) → (fields : List Field) → list_any test (map field_width (fields16 fields)) ≡ false
no_width test is [] = refl
no_width test is (f ∷ fields) =
    or_false (test (field_width (bit_field f))) (list_any test (map field_width (fields16 fields))) (is f) (no_width test is fields)

pub sizes_good : (fields : List Field) → list_all has_width fields ≡ true → list_any leaves_size (map field_width (fields16 fields)) ≡ false
sizes_good [] h = refl
sizes_good (f ∷ fields) h =
    let parts = and_parts (has_width f) (list_all has_width fields) h in
    or_false (leaves_size (field_width (bit_field f))) (list_any leaves_size (map field_width (fields16 fields))) (width_good f.width parts.0) (sizes_good fields parts.1)

-- sums

abbrev width_sum : List Field → ℕ
width_sum fields = sum_by (λ f. f.width) fields

sum_is : (fields : List Field) → sum_by bits_of_field (fields16 fields) ≡ width_sum fields
sum_is [] = refl
sum_is (f ∷ fields) =
    sum_by-cons bits_of_field (bit_field f) (fields16 fields) ∙ ap (λ (n : ℕ). f.width + n) (sum_is fields)
    ∙ sym (sum_by-cons (λ (g : Field). g.width) f fields)

abbrev pub kinds : List Field → List FieldKind
kinds fields = map (declarations.bit_field) (fields16 fields)

bits_is : (fields : List Field) → sum_by field_bits (kinds fields) ≡ width_sum fields
bits_is [] = refl
bits_is (f ∷ fields) =
    sum_by-cons field_bits (declarations.bit_field (bit_field f)) (kinds fields) ∙ ap (λ (n : ℕ). f.width + n) (bits_is fields)
    ∙ sym (sum_by-cons (λ (g : Field). g.width) f fields)

sum_bound : (fields : List Field) → list_all has_width fields ≡ true → width_sum fields ≤ 128 * length fields
sum_bound [] h = omega arith
sum_bound (f ∷ fields) h =
    let parts = and_parts (has_width f) (list_all has_width fields) h in
    let width = and_parts (nat_le 1 f.width) (nat_le f.width 128) parts.0 in
    omega (arith, leb-true f.width 128 width.1, sum_bound fields parts.1, sum_by-cons (λ (g : Field). g.width) f fields)

sum_some : (fields : List Field) → nat_le 1 (length fields) ≡ true → list_all has_width fields ≡ true → 1 ≤ width_sum fields
sum_some [] some h = leb-true 1 0 some
sum_some (f ∷ fields) some h =
    let parts = and_parts (has_width f) (list_all has_width fields) h in
    let width = and_parts (nat_le 1 f.width) (nat_le f.width 128) parts.0 in
    omega (arith, leb-true 1 f.width width.0, sum_by-cons (λ (g : Field). g.width) f fields)

pub count_is : (fields : List Field) → length (kinds fields) ≡ length fields
count_is [] = refl
count_is (f ∷ fields) = ap (λ (n : ℕ). suc n) (count_is fields)

-- what the rules want of a header
pub record Lawful (fields : List Field) : Type 0 where
  pub names : names.repeats (map field_name (fields16 fields)) ≡ false
  pub widths : list_any has_bad_width (fields16 fields) ≡ false
  pub sizes : list_any leaves_size (map field_width (fields16 fields)) ≡ false
  pub some : nat_eq (sum_by bits_of_field (fields16 fields)) 0 ≡ false
  pub octets : nat_eq (sum_by bits_of_field (fields16 fields) % 8) 0 ≡ true
  pub count : length (kinds fields) ≤ 64
  pub bits : sum_by field_bits (kinds fields) ≤ 8192

pub lawful_is : (fields : List Field) → is_header fields ≡ true → Lawful fields
lawful_is fields h =
    let few = nat_le 1 (length fields) && nat_le (length fields) 64 in
    let sound = not (repeats fields) && nat_eq (width_sum fields % 8) 0 in
    let parts = and_parts few (list_all has_width fields && sound) h in
    let bounds = and_parts (nat_le 1 (length fields)) (nat_le (length fields) 64) parts.0 in
    let others = and_parts (list_all has_width fields) sound parts.1 in
    let last = and_parts (not (repeats fields)) (nat_eq (width_sum fields % 8) 0) others.1 in
    let least : 1 ≤ sum_by bits_of_field (fields16 fields) = omega (arith, sum_is fields, sum_some fields bounds.0 others.0) in
    record {
      names = names_differ fields ∙ not_is (repeats fields) last.0;
      widths = widths_good fields others.0;
      sizes = sizes_good fields others.0;
      some = grind (arith, nat_tests);
      octets = ap (λ (n : ℕ). nat_eq (n % 8) 0) (sum_is fields) ∙ last.1;
      count = omega (arith, count_is fields, leb-true (length fields) 64 bounds.1);
      bits = omega (arith, bits_is fields, sum_bound fields others.0, leb-true (length fields) 64 bounds.1);
    }
