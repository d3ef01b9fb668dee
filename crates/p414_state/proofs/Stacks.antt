-- Elements that are moved up or down.
use Rattle.std.proofs.Common.{◌≡◌, ℕ, ◌+◌, ◌-◌, ◌≤◌, min, Bool, true, false, List, [], ◌∷◌, ◌++◌, length, take, drop, map, replicate, subst, refl, sym, ap, ap₂, ◌∙◌, arith, length-take-le, length-drop}
use Rattle.std.proofs.lemmas.List.{take-map, drop-map, drop_min, take_at, drop_at, map-append, length-map, length-append, length-replicate, length-take}
use Rattle.std.proofs.lemmas.List.Elements.{All-append, All-take, All-drop}
use Rattle.std.proofs.Math.Seq.{take-append-add}
use Rattle.p4x_bits.specs.BitLists.{octet_bits}
use Rattle.p414_sem.specs.State.{Header, blank, cleared}
use Rattle.p414_sem.specs.Effects.{pushed, popped}
use Rattle.p414_layout.specs.declared.shape.Shape.{Shape}
use Rattle.p414_state.specs.Headers.{Packed, header_in, IsPacked, ArePacked, HoldsStack}
use Rattle.p414_state.specs.internal.Cells.{emptied, raised, lowered}
use Rattle.p414_state.proofs.Numbers.{length-numbers_in, numbers_of_zeros}
use Rattle.p414_state.proofs.Elements.{emptied_each}

-- What is cleared has nothing but its validity and the number of its fields.

all_blank : (valid : Bool) (widths : List ℕ) (elements : List Packed) → map (header_in widths) (map (emptied valid) elements) ≡ replicate (length elements) (blank valid (length widths))
all_blank valid widths [] = refl
all_blank valid widths (p ∷ elements) =
    ap₂ (λ (numbers : List ℕ) (l : List Header). (record { valid = valid; numbers = numbers }) ∷ l)
    (numbers_of_zeros widths (length p.octets)) (all_blank valid widths elements)

all_cleared : (valid : Bool) (widths : List ℕ) (elements : List Packed) → map (cleared valid) (map (header_in widths) elements) ≡ replicate (length elements) (blank valid (length widths))
all_cleared valid widths [] = refl
all_cleared valid widths (p ∷ elements) =
    ap₂ (λ (n : ℕ) (l : List Header). blank valid n ∷ l)
    (length-numbers_in widths (octet_bits p.octets)) (all_cleared valid widths elements)

module _ (count : ℕ) (old : List Packed) where
  abbrev most : ℕ
  most = min count (length old)

  within : most ≤ length old
  within = omega arith

  front_long : length (drop (length old - most) old) ≡ most
  front_long = let le = within in length-drop (length old - most) old ∙ omega arith

  -- moved up, by what stays
  raised_is : raised most old ≡ map (emptied true) (drop (length old - most) old) ++ take (length old - most) old
  raised_is =
      ap₂ (λ (a b : List Packed). map (emptied true) a ++ b)
      (take_at (drop (length old - most) old) (take (length old - most) old) most front_long)
      (drop_at (drop (length old - most) old) (take (length old - most) old) most front_long)

  -- moved down
  lowered_is : lowered most old ≡ drop most old ++ map (emptied false) (take most old)
  lowered_is =
      let long : length (map (emptied false) (take most old)) ≡ most = length-map (take most old) (emptied false) ∙ length-take-le most old within in
      ap₂ (λ (a b : List Packed). a ++ b)
      (drop_at (map (emptied false) (take most old)) (drop most old) most long)
      (take_at (map (emptied false) (take most old)) (drop most old) most long)

  -- what the first ones become that a stack is moved over
  first_cleared : (valid : Bool) (widths : List ℕ) → map (cleared valid) (take count (map (header_in widths) old)) ≡ replicate most (blank valid (length widths))
  first_cleared valid widths =
      ap (map (cleared valid)) (take-map (header_in widths) count old)
      ∙ all_cleared valid widths (take count old)
      ∙ ap (λ (n : ℕ). replicate n (blank valid (length widths))) (length-take count old)

  pushed_seen : (widths : List ℕ) → map (header_in widths) (raised most old) ≡ pushed count (map (header_in widths) old)
  pushed_seen widths =
      let new = blank true (length widths) in
      let headers = map (header_in widths) old in
      let many : length headers ≡ length old = length-map old (header_in widths) in
      let none : length (replicate most new) ≡ most = length-replicate most new in
      let le = within in
      let split : length headers ≡ length (replicate most new) + (length old - most) = omega arith in
      ap (map (header_in widths)) raised_is
      ∙ map-append (header_in widths) (map (emptied true) (drop (length old - most) old)) (take (length old - most) old)
      ∙ ap₂ (λ (a b : List Header). a ++ b)
      (all_blank true widths (drop (length old - most) old) ∙ ap (λ (n : ℕ). replicate n new) front_long)
      (sym (take-map (header_in widths) (length old - most) old))
      ∙ sym (take-append-add (replicate most new) headers (length old - most))
      ∙ ap (λ (n : ℕ). take n (replicate most new ++ headers)) (sym split)
      ∙ ap (λ (l : List Header). take (length headers) (l ++ headers)) (sym (first_cleared true widths))

  popped_seen : (widths : List ℕ) → map (header_in widths) (lowered most old) ≡ popped count (map (header_in widths) old)
  popped_seen widths =
      let headers = map (header_in widths) old in
      ap (map (header_in widths)) lowered_is
      ∙ map-append (header_in widths) (drop most old) (map (emptied false) (take most old))
      ∙ ap₂ (λ (a b : List Header). a ++ b)
      (ap (map (header_in widths)) (drop_min count old) ∙ sym (drop-map (header_in widths) count old))
      (all_blank false widths (take most old)
      ∙ ap (λ (n : ℕ). replicate n (blank false (length widths))) (length-take-le most old within)
      ∙ sym (first_cleared false widths))

  raised_packed : (shape : Shape) → shape.metadata ≡ false → ArePacked shape old → ArePacked shape (raised most old)
  raised_packed shape header packed = subst (ArePacked shape) (sym raised_is) (record {
    count =
        let le = within in
        let a : length (map (emptied true) (drop (length old - most) old)) ≡ most = length-map (drop (length old - most) old) (emptied true) ∙ front_long in
        let b : length (take (length old - most) old) ≡ length old - most = length-take-le (length old - most) old (omega arith) in
        let all : length (map (emptied true) (drop (length old - most) old) ++ take (length old - most) old) ≡ length (map (emptied true) (drop (length old - most) old)) + length (take (length old - most) old) = length-append (map (emptied true) (drop (length old - most) old)) (take (length old - most) old) in
        let same : length (map (emptied true) (drop (length old - most) old) ++ take (length old - most) old) ≡ length old = omega arith in
        same ∙ packed.count;
    each = All-append (IsPacked shape) (map (emptied true) (drop (length old - most) old)) (take (length old - most) old)
        (emptied_each shape true (drop (length old - most) old) header (All-drop (IsPacked shape) (length old - most) old packed.each))
        (All-take (IsPacked shape) (length old - most) old packed.each);
  })

  lowered_packed : (shape : Shape) → shape.metadata ≡ false → ArePacked shape old → ArePacked shape (lowered most old)
  lowered_packed shape header packed = subst (ArePacked shape) (sym lowered_is) (record {
    count =
        let le = within in
        let a : length (drop most old) ≡ length old - most = length-drop most old in
        let b : length (map (emptied false) (take most old)) ≡ most = length-map (take most old) (emptied false) ∙ length-take-le most old within in
        let all : length (drop most old ++ map (emptied false) (take most old)) ≡ length (drop most old) + length (map (emptied false) (take most old)) = length-append (drop most old) (map (emptied false) (take most old)) in
        let same : length (drop most old ++ map (emptied false) (take most old)) ≡ length old = omega arith in
        same ∙ packed.count;
    each = All-append (IsPacked shape) (drop most old) (map (emptied false) (take most old))
        (All-drop (IsPacked shape) most old packed.each)
        (emptied_each shape false (take most old) header (All-take (IsPacked shape) most old packed.each));
  })

  pub raised_holds : (new : List Packed) (shape : Shape) (headers : List Header) → new ≡ raised most old → shape.metadata ≡ false → HoldsStack shape headers old → HoldsStack shape (pushed count headers) new
  raised_holds new shape headers is header holds = record {
    are = ap (map (header_in shape.widths)) is ∙ pushed_seen shape.widths ∙ ap (pushed count) holds.are;
    packed = subst (ArePacked shape) (sym is) (raised_packed shape header holds.packed);
  }

  pub lowered_holds : (new : List Packed) (shape : Shape) (headers : List Header) → new ≡ lowered most old → shape.metadata ≡ false → HoldsStack shape headers old → HoldsStack shape (popped count headers) new
  lowered_holds new shape headers is header holds = record {
    are = ap (map (header_in shape.widths)) is ∙ popped_seen shape.widths ∙ ap (popped count) holds.are;
    packed = subst (ArePacked shape) (sym is) (lowered_packed shape header holds.packed);
  }
