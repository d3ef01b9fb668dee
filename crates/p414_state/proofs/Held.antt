-- Headers and stacks that are copied from an instance or put into it, and what an instance is like at any time.
use Rattle.std.proofs.Common.{◌≡◌, ℕ, ◌+◌, ◌*◌, ◌%◌, ◌/◌, ◌<◌, Bool, false, List, [], ◌∷◌, ◌++◌, length, take, drop, map, get_or, set, subst, refl, sym, ap, ap₂, ◌∙◌, arith, Result, Ok, Err, length-take-le, length-drop, take-append-drop}
use Rattle.std.specs.Prelude.{IfOk}
use Rattle.std.specs.List.{All}
use Rattle.std.proofs.lemmas.List.{get_or-map, length-map, nil_from_length}
use Rattle.p4x_bits.specs.BitLists.{octet_bits}
use Rattle.p4x_bits.proofs.BitLists.{length-octet_bits, bits-num, num_of_take_below}
use Rattle.p414_sem.specs.State.{Header}
use Rattle.p414_sem.specs.Packing.{numbers_in, bits_in}
use Rattle.p414_sem.specs.Fitting.{FitsHeader, FitWidths}
use Rattle.p414_layout.specs.declared.shape.Shape.{Shape}
use Rattle.p414_layout.specs.Placed.{total, octets_for}
use Rattle.p414_layout.specs.Shapes.{element_count}
use Rattle.p414_state.specs.Headers.{Packed, header_in, IsPacked, ArePacked, HoldsHeader, HoldsStack, IsValid, FitsShape}
use Rattle.p414_state.specs.internal.Cells.{Laid, laid, element_in, with_all, with_element, AreCells}
use Rattle.p414_state.proofs.Numbers.{numbers_of_zeros}
use Rattle.p414_state.proofs.Elements.{element_is, set_is, packed_at}

-- one element

abbrev some : Packed
some = record { valid = false; octets = [] }

-- what holds of each element as it is packed holds of all as they are seen
seen_all : (P : Header → Type 0) (widths : List ℕ) (elements : List Packed) → ((k : ℕ) → k < length elements → P (header_in widths (get_or elements k some))) → All P (map (header_in widths) elements)
seen_all P widths elements each = λ k d lt.
    let inside : k < length elements = rw (← length-map elements (header_in widths)) lt in
    subst P (sym (get_or-map (header_in widths) elements k some d inside)) (each k inside)

pub numbers_fit : (widths : List ℕ) (xs : List Bool) → FitWidths widths (numbers_in widths xs)
numbers_fit [] xs = _
numbers_fit (w ∷ widths) xs = (num_of_take_below w xs, numbers_fit widths (drop w xs))

pub header_fits : (shape : Shape) (p : Packed) → IsPacked shape p → FitsHeader shape.widths (header_in shape.widths p)
header_fits shape p packed = record {
  numbers = numbers_fit shape.widths (octet_bits p.octets);
  zeros = λ invalid.
      ap (λ (octets : List ℕ). numbers_in shape.widths (octet_bits octets)) (packed.zeros invalid)
      ∙ numbers_of_zeros shape.widths (octets_for (total shape.widths));
}

cells_fit : (shape : Shape) (elements : List Packed) (place : ℕ) → AreCells shape elements place → FitsShape shape (laid shape elements place).instance
cells_fit shape elements place cells = record {
  count = length-map elements (header_in shape.widths) ∙ cells.count;
  each = seen_all (FitsHeader shape.widths) shape.widths elements (λ k lt. header_fits shape (get_or elements k some) (cells.each k some lt));
  metadata = λ is. seen_all IsValid shape.widths elements (λ k lt. (cells.each k some lt).metadata is);
  place = cells.within;
}

-- the bits of fields are those that their numbers were taken from
pub bits_of_numbers : (widths : List ℕ) (xs : List Bool) → length xs ≡ total widths → bits_in widths (numbers_in widths xs) ≡ xs
bits_of_numbers [] xs long = sym (nil_from_length xs long)
bits_of_numbers (w ∷ widths) xs long =
    let front : length (take w xs) ≡ w = length-take-le w xs (omega arith) in
    let behind : length (drop w xs) ≡ total widths = length-drop w xs ∙ omega arith in
    ap₂ (λ (a b : List Bool). a ++ b) (bits-num w (take w xs) front) (bits_of_numbers widths (drop w xs) behind)
    ∙ take-append-drop w xs

-- What the calls of an instance give and leave, where it is seen as `now`.

module _ (shape : Shape) (elements : List Packed) (place : ℕ) where
  pub fits_seen : (now : Laid) → laid shape elements place ≡ now → AreCells shape elements place → FitsShape now.shape now.instance
  fits_seen now view cells = subst (λ (n : Laid). FitsShape n.shape n.instance) view (cells_fit shape elements place cells)

  pub copy_holds : {E : Type 0} (e : ℕ) (old : Packed) (made : Result Packed E) (now : Laid) → laid shape elements place ≡ now → AreCells shape elements place → e < element_count now.shape → old ≡ get_or elements e old → IfOk made (λ p. p ≡ old) → IfOk made (HoldsHeader now.shape (element_in now e))
  copy_holds e old (Err x) now view cells lt there is = _
  copy_holds e old (Ok p) now view cells lt there is =
      subst (λ (n : Laid). e < element_count n.shape → HoldsHeader n.shape (element_in n e) p) view (λ l.
      let same : p ≡ get_or elements e old = is ∙ there in
      record {
        is = ap (header_in shape.widths) same ∙ sym (element_is shape elements place e old (rw cells.count l));
        packed = subst (IsPacked shape) (sym same) (packed_at shape elements place e old cells l);
      }) lt

  pub assigned_seen : (e : ℕ) (p new : Packed) (now : Laid) → laid shape elements place ≡ now → new ≡ p → laid shape (set elements e new) place ≡ with_element now e (header_in now.shape.widths p)
  assigned_seen e p new now view is =
      subst (λ (n : Laid). laid shape (set elements e new) place ≡ with_element n e (header_in n.shape.widths p)) view
      (set_is shape elements place e new (header_in shape.widths p) (ap (header_in shape.widths) is))

  pub copies_hold : (copies : List Packed) (now : Laid) → laid shape elements place ≡ now → AreCells shape elements place → copies ≡ elements → HoldsStack now.shape now.instance.elements copies
  copies_hold copies now view cells is =
      subst (λ (n : Laid). HoldsStack n.shape n.instance.elements copies) view
      (subst (λ (l : List Packed). HoldsStack shape (map (header_in shape.widths) elements) l) (sym is)
      (record { are = refl; packed = record { count = cells.count; each = cells.each } }))

  pub all_seen : (new stack : List Packed) (now : Laid) → laid shape elements place ≡ now → new ≡ stack → laid shape new place ≡ with_all now (map (header_in now.shape.widths) stack)
  all_seen new stack now view is =
      subst (λ (n : Laid). laid shape new place ≡ with_all n (map (header_in n.shape.widths) stack)) view
      (ap (λ (l : List Packed). laid shape l place) is)

  pub all_cells : (new stack : List Packed) (now : Laid) → laid shape elements place ≡ now → AreCells shape elements place → ArePacked now.shape stack → new ≡ stack → AreCells shape new place
  all_cells new stack now view cells packed is =
      subst (λ (l : List Packed). AreCells shape l place) (sym is)
      (subst (λ (n : Laid). ArePacked n.shape stack → AreCells shape stack place) view
      (λ p. record { count = p.count; each = p.each; within = cells.within }) packed)

  -- the octets of an element, where its fields are whole octets
  pub octets_seen : (e : ℕ) (old : Packed) (octets : List ℕ) (now : Laid) → laid shape elements place ≡ now → AreCells shape elements place → e < element_count now.shape → total now.shape.widths % 8 ≡ 0 → old ≡ get_or elements e old → octets ≡ old.octets → octet_bits octets ≡ bits_in now.shape.widths (element_in now e).numbers
  octets_seen e old octets now view cells lt whole there is =
      subst (λ (n : Laid). e < element_count n.shape → total n.shape.widths % 8 ≡ 0 → octet_bits octets ≡ bits_in n.shape.widths (element_in n e).numbers) view (λ l h.
      let p = get_or elements e old in
      let packed : IsPacked shape p = packed_at shape elements place e old cells l in
      let room : length p.octets ≡ (total shape.widths + 7) / 8 = packed.room in
      let long : length (octet_bits p.octets) ≡ 8 * length p.octets = length-octet_bits p.octets in
      let all : length (octet_bits p.octets) ≡ total shape.widths = omega arith in
      ap octet_bits (is ∙ ap (λ (x : Packed). x.octets) there)
      ∙ sym (bits_of_numbers shape.widths (octet_bits p.octets) all)
      ∙ ap (λ (x : Header). bits_in shape.widths x.numbers) (sym (element_is shape elements place e old (rw cells.count l)))) lt whole
