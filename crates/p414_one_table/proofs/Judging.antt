-- How fields are judged one after another.
use Rattle.std.proofs.Common.{◌≡◌, ℕ, ◌+◌, ◌-◌, ◌*◌, ◌^◌, ◌<◌, ◌≤◌, Bool, true, false, ◌&&◌, nat_le, List, [], ◌∷◌, length, sum_by, get_or, take, drop, refl, sym, ◌∙◌, ap, arith}
use Rattle.std.proofs.lemmas.Grind.{common_steps}
use Rattle.std.proofs.lemmas.Bool.Decides.{nat_tests}
use Rattle.std.proofs.lemmas.List.Sums.{sum_by-cons}
use Rattle.std.specs.List.{list_all, list_any}
use Rattle.std.specs.Str.{bytes_eq}
use Rattle.p414_one_table.specs.Programs.{is_id, is_width, repeats}
use Rattle.p414_one_table.specs.declared.program.Field.{Field}

pub repeats_on : (left : List Field) (first : Field) (name : List ℕ) (r : Bool) → 1 ≤ length left → first ≡ get_or left 0 first → name ≡ first.name
    → r ≡ list_any (λ other. bytes_eq name other.name) (take (length left - 1) (drop 1 left)) → r ≡ false
    → repeats (take (length left - 1) (drop 1 left)) ≡ repeats left
repeats_on [] first name r h here is found none = absurd (omega arith)
repeats_on (f ∷ fields) first name r h here is found none =
    let whole : take (length (f ∷ fields) - 1) (drop 1 (f ∷ fields)) ≡ fields = grind (arith, common_steps) in
    let same : name ≡ f.name = is ∙ ap (λ (g : Field). g.name) here in
    let other : list_any (λ other. bytes_eq f.name other.name) fields ≡ false = rw (sym same, sym whole, sym found) none in
    rw (whole, other) refl

and_left : (a b : Bool) → (a && b) ≡ true → a ≡ true
and_left true b h = refl
and_left false b h = h

and_right : (a b : Bool) → (a && b) ≡ true → b ≡ true
and_right true b h = h
and_right false b h = cc

width_small : (w : ℕ) → is_width w ≡ true → w ≤ 128
width_small w h = grind (arith, nat_tests, and_right (nat_le 1 w) (nat_le w 128) h)

few : (n : ℕ) → (nat_le 1 n && nat_le n 64) ≡ true → n ≤ 64
few n h = grind (arith, nat_tests, and_right (nat_le 1 n) (nat_le n 64) h)

widths_small : (fields : List Field) → list_all (λ f. is_id f.name && is_width f.width) fields ≡ true → sum_by (λ f. f.width) fields ≤ 128 * length fields
widths_small [] h = omega arith
widths_small (f ∷ fields) h =
    let each : Bool = list_all (λ (g : Field). is_id g.name && is_width g.width) fields in
    let here : f.width ≤ 128 = width_small f.width (and_right (is_id f.name) (is_width f.width) (and_left (is_id f.name && is_width f.width) each h)) in
    let later : sum_by (λ (g : Field). g.width) fields ≤ 128 * length fields = widths_small fields (and_right (is_id f.name && is_width f.width) each h) in
    let more : sum_by (λ (g : Field). g.width) (f ∷ fields) ≡ f.width + sum_by (λ (g : Field). g.width) fields = sum_by-cons (λ (g : Field). g.width) f fields in
    rw more (omega arith)

pub widths_fit : (fields : List Field) → (nat_le 1 (length fields) && nat_le (length fields) 64) ≡ true → list_all (λ f. is_id f.name && is_width f.width) fields ≡ true
    → sum_by (λ f. f.width) fields < 2 ^ 64
widths_fit fields count each =
    let most : length fields ≤ 64 = few (length fields) count in
    let all : sum_by (λ f. f.width) fields ≤ 128 * length fields = widths_small fields each in
    omega arith
