-- Fields that lie side by side.
use Rattle.std.proofs.Common.{◌≡◌, ℕ, zero, suc, ◌+◌, ◌<◌, ◌≤◌, List, [], ◌∷◌, ◌++◌, length, map, take, get_or, refl, sym, ap, ◌∙◌, arith}
use Rattle.std.proofs.lemmas.List.{length-map, get_or-map, map-append, take_more}
use Rattle.p414_syntax.specs.declared.headers.Field.{Field}
use Rattle.p414_syntax.specs.Fields.{field_bits}
use Rattle.p414_layout.specs.declared.fields.FieldPlace.{FieldPlace}
use Rattle.p414_layout.specs.Placed.{total, bits_before, place_width, ArePlaced}

-- one more field behind the others
pub placed_push : (from : ℕ) (fields : List FieldPlace) (bits width : ℕ) → ArePlaced from fields bits → width ≤ 128 → ArePlaced from (fields ++ record { at = bits; width = width } ∷ []) (bits + width)
placed_push from [] bits width placed fits = (sym placed, fits, ap (λ (n : ℕ). n + width) placed)
placed_push from (f ∷ fields) bits width placed fits = (placed.0, placed.1, placed_push (from + f.width) fields bits width placed.2 fits)

-- where a field begins
pub placed_at : (from : ℕ) (fields : List FieldPlace) (bits i : ℕ) (d : FieldPlace) → ArePlaced from fields bits → i < length fields → (get_or fields i d).at ≡ from + bits_before (map place_width fields) i
placed_at from [] bits i d placed lt = absurd (omega arith)
placed_at from (f ∷ fields) bits zero d placed lt = let e : f.at ≡ from = placed.0 in omega arith
placed_at from (f ∷ fields) bits (suc i) d placed lt =
    let e : (get_or fields i d).at ≡ (from + f.width) + bits_before (map place_width fields) i = placed_at (from + f.width) fields bits i d placed.2 (omega arith) in
    omega arith

pub placed_fits : (from : ℕ) (fields : List FieldPlace) (bits i : ℕ) (d : FieldPlace) → ArePlaced from fields bits → i < length fields → (get_or fields i d).width ≤ 128
placed_fits from [] bits i d placed lt = absurd (omega arith)
placed_fits from (f ∷ fields) bits zero d placed lt = placed.1
placed_fits from (f ∷ fields) bits (suc i) d placed lt = placed_fits (from + f.width) fields bits i d placed.2 (omega arith)

-- where all end
pub placed_total : (from : ℕ) (fields : List FieldPlace) (bits : ℕ) → ArePlaced from fields bits → bits ≡ from + total (map place_width fields)
placed_total from [] bits placed = let e : from ≡ bits = placed in omega arith
placed_total from (f ∷ fields) bits placed =
    let e : bits ≡ (from + f.width) + total (map place_width fields) = placed_total (from + f.width) fields bits placed.2 in
    omega arith

-- a field ends within all bits
pub before_within : (widths : List ℕ) (i d : ℕ) → i < length widths → bits_before widths i + get_or widths i d ≤ total widths
before_within [] i d lt = absurd (omega arith)
before_within (w ∷ widths) zero d lt = omega arith
before_within (w ∷ widths) (suc i) d lt =
    let e : bits_before widths i + get_or widths i d ≤ total widths = before_within widths i d (omega arith) in
    omega arith

-- the same of fields of which the first lies at 0

pub place_begins : (fields : List FieldPlace) (bits i : ℕ) (d : FieldPlace) → ArePlaced 0 fields bits → i < length (map place_width fields) → (get_or fields i d).at ≡ bits_before (map place_width fields) i
place_begins fields bits i d placed lt =
    let e : (get_or fields i d).at ≡ 0 + bits_before (map place_width fields) i = placed_at 0 fields bits i d placed (omega (arith, length-map fields place_width)) in
    omega arith

pub place_wide : (fields : List FieldPlace) (i : ℕ) (d : FieldPlace) → i < length (map place_width fields) → (get_or fields i d).width ≡ get_or (map place_width fields) i 0
place_wide fields i d lt = sym (get_or-map place_width fields i d 0 (omega (arith, length-map fields place_width)))

pub place_fits : (fields : List FieldPlace) (bits i : ℕ) (d : FieldPlace) → ArePlaced 0 fields bits → i < length (map place_width fields) → (get_or fields i d).width ≤ 128
place_fits fields bits i d placed lt = placed_fits 0 fields bits i d placed (omega (arith, length-map fields place_width))

pub place_within : (fields : List FieldPlace) (bits i : ℕ) (d : FieldPlace) → ArePlaced 0 fields bits → i < length (map place_width fields) → (get_or fields i d).at + (get_or fields i d).width ≤ total (map place_width fields)
place_within fields bits i d placed lt =
    let begins : (get_or fields i d).at ≡ bits_before (map place_width fields) i = place_begins fields bits i d placed lt in
    let wide : (get_or fields i d).width ≡ get_or (map place_width fields) i 0 = place_wide fields i d lt in
    let within : bits_before (map place_width fields) i + get_or (map place_width fields) i 0 ≤ total (map place_width fields) = before_within (map place_width fields) i 0 lt in
    omega arith

pub bits_are : (fields : List FieldPlace) (bits : ℕ) → ArePlaced 0 fields bits → bits ≡ total (map place_width fields)
bits_are fields bits placed =
    let e : bits ≡ 0 + total (map place_width fields) = placed_total 0 fields bits placed in
    omega arith

-- one more field of a header type, behind those before it
pub places_push : (fields : List Field) (i : ℕ) (d : Field) (places new : List FieldPlace) (bits end width : ℕ) → i < length fields → width ≡ field_bits (get_or fields i d) → width ≤ 128 → new ≡ places ++ record { at = bits; width = width } ∷ [] → end ≡ bits + width → map place_width places ≡ map field_bits (take i fields) → ArePlaced 0 places bits → (map place_width new ≡ map field_bits (take (i + 1) fields)) × ArePlaced 0 new end
places_push fields i d places new bits end width lt wide fits is ends same placed =
    let widths : map place_width new ≡ map field_bits (take (i + 1) fields) =
    ap (map place_width) is
    ∙ map-append place_width places (record { at = bits; width = width } ∷ [])
    ∙ ap (λ (l : List ℕ). l ++ width ∷ []) same
    ∙ ap (λ (n : ℕ). map field_bits (take i fields) ++ n ∷ []) wide
    ∙ sym (ap (map field_bits) (take_more fields i d lt) ∙ map-append field_bits (take i fields) (get_or fields i d ∷ [])) in
    (widths, rw (is, ends) (placed_push 0 places bits width placed fits))
