-- Where what a primitive reads is the same, it has the same effects.
use Rattle.std.proofs.Common.{◌≡◌, ℕ, Bool, true, false, cond, List, [], ◌∷◌, ◌++◌, length, refl, ap, ap₂, ◌∙◌}
use Rattle.std.specs.Prelude.{ℤ, pos, ◌+ℤ◌, ◌-ℤ◌, ◌*◌, ◌/◌, ◌%◌, ◌^◌, ◌&&◌, flat_map, replicate}
use Rattle.std.specs.List.{AllByRecursion}
use Rattle.p4x_bits.specs.BitLists.{bits, octet_bits}
use Rattle.state_store.specs.declared.shapes.Shape.{Shape}
use Rattle.state_store.specs.Cells.{width_of}
use Rattle.state_store.specs.State.{shape_at, read as read_cell}
use Rattle.p414_syntax.specs.declared.calculations.Item.{Item}
use Rattle.p414_syntax.specs.declared.calculations.Item.TheVariants as item
use Rattle.p414_syntax.specs.declared.syntax.Decl.{Decl}
use Rattle.p414_sem.specs.Wholes.{wrapped, kept, natural, and_ℤ, or_ℤ, xor_ℤ, masked}
use Rattle.p414_sem.specs.Slots.{Element, Slot, standard, declared, bits_of_ref}
use Rattle.p414_sem.specs.State.{Header, header_of, is_live, cleared, read}
use Rattle.p414_sem.specs.Calculations.{Calculation, item_bits, list_bits, summed, result_of}
use Rattle.p414_sem.specs.Operations.{Source, number, field, parameter, Term, just, on_mask, sum, difference, conjunction, disjunction, exclusive, left_shift, right_shift, cell, hashed, Primitive, write, add_header, remove_header, copy_header, push, pop, count_cell, write_cell, execute_meter, ask, nothing}
use Rattle.p414_sem.specs.Effects.{Moment, put_field, put_header, put_stack, put_cell, count_packet, take_colour, put_request, source_number, natural_of, index_of, offset_of, term_number, pushed, popped, effects}
use Rattle.lower_laws_actions.specs.Apart.{Part, source_reads, both_read, item_reads, term_reads, target_reads, reads}
use Rattle.lower_laws_actions.specs.Same.{Same, SameElse}

-- parts

abbrev pub AllSame : Moment → Moment → List Part → Type 0
AllSame r m parts = AllByRecursion (Same r m) parts

pub both_same : (r m : Moment) (xs ys : List Part) → AllSame r m (xs ++ ys) → AllSame r m xs × AllSame r m ys
both_same r m [] ys all = (tt, all)
both_same r m (x ∷ xs) ys all = let rest = both_same r m xs ys all.1 in ((all.0, rest.0), rest.1)

-- A moment and another one, with arguments: what is read is the same.
module _ (ds : List Decl) (arguments : List ℕ) (r m : Moment) (rest : SameElse r m) where
  same_source : (a : Source) → AllSame r m (source_reads a) → source_number arguments r.state a ≡ source_number arguments m.state a
  same_source (number value) all = refl
  same_source (field slot) all = ap pos all.0
  same_source (parameter n) all = refl

  -- something of two sources
  same_both : {X : Type 0} (f : ℤ → ℤ → X) (a b : Source) → AllSame r m (both_read a b) → f (source_number arguments r.state a) (source_number arguments r.state b) ≡ f (source_number arguments m.state a) (source_number arguments m.state b)
  same_both f a b all =
      let two = both_same r m (source_reads a) (source_reads b) all in
      ap₂ f (same_source a two.0) (same_source b two.1)

  same_item : (i : Item) → AllSame r m (item_reads ds i) → item_bits ds r.state i ≡ item_bits ds m.state i
  same_item item.Payload all = ap octet_bits rest.unparsed
  same_item (item.Number n) all = refl
  same_item (item.Field x) all = ap (bits (bits_of_ref ds x)) all.0
  same_item (item.Instance i) all = refl

  same_items : (is : List Item) → AllSame r m (flat_map (item_reads ds) is) → list_bits ds r.state is ≡ list_bits ds m.state is
  same_items [] all = refl
  same_items (i ∷ is) all =
      let two = both_same r m (item_reads ds i) (flat_map (item_reads ds) is) all in
      ap₂ (λ (a b : List Bool). a ++ b) (same_item i two.0) (same_items is two.1)

  same_result : (c : Calculation) → AllSame r m (flat_map (item_reads ds) c.items) → result_of ds r.state c ≡ result_of ds m.state c
  same_result c all = ap (λ (l : List Bool). summed c.algorithm l % 2 ^ c.width) (same_items c.items all)

  same_term : (slot : Slot) (term : Term) → AllSame r m (term_reads ds slot term) → term_number ds arguments r slot term ≡ term_number ds arguments m slot term
  same_term slot (just a) all = same_source a all
  same_term slot (on_mask a mask) all =
      ap (λ n. masked (pos n) (source_number arguments r.state a) (source_number arguments r.state mask)) all.0
      ∙ same_both (λ x y. masked (pos (read m.state slot)) x y) a mask all.1
  same_term slot (sum a b) all = same_both (λ x y. x +ℤ y) a b all
  same_term slot (difference a b) all = same_both (λ x y. x -ℤ y) a b all
  same_term slot (conjunction a b) all = same_both and_ℤ a b all
  same_term slot (disjunction a b) all = same_both or_ℤ a b all
  same_term slot (exclusive a b) all = same_both xor_ℤ a b all
  same_term slot (left_shift a count) all = same_both (λ x y. pos (natural x * 2 ^ natural y)) a count all
  same_term slot (right_shift a count) all = same_both (λ x y. pos (natural x / 2 ^ natural y)) a count all
  same_term slot (cell object index) all =
      ap pos (all.0 (index_of arguments r.state index)
      ∙ ap (λ (z : ℤ). read_cell m.store object (wrapped 32 z)) (same_source index all.1))
  same_term slot (hashed base calculation bound) all =
      let two = both_same r m (both_read base bound) (flat_map (item_reads ds) calculation.items) all in
      ap (λ n. pos (offset_of (natural_of arguments r.state base) n (natural_of arguments r.state bound))) (same_result calculation two.1)
      ∙ same_both (λ x y. pos (offset_of (natural x) (result_of ds m.state calculation) (natural y))) base bound two.0

  same_live : (slot : Slot) → AllSame r m (target_reads slot) → is_live r.state slot ≡ is_live m.state slot
  same_live (standard which) all = refl
  same_live (declared i e f) all = all.0.0

  same_zeros : (b : Bool) (header : Element) → length (header_of r.state header).numbers ≡ length (header_of m.state header).numbers → cleared b (header_of r.state header) ≡ cleared b (header_of m.state header)
  same_zeros b header count = ap (λ n. let h : Header = record { valid = b; numbers = replicate n 0 } in h) count

  -- a primitive whose reads are the same has the same effects
  pub same_effects : (p : Primitive) → AllSame r m (reads ds p) → effects ds arguments r p ≡ effects ds arguments m p
  same_effects (write sums target term) all =
      let two = both_same r m (target_reads target.slot) (term_reads ds target.slot term) all in
      ap₂ (λ (live : Bool) (z : ℤ). cond live (put_field target.slot (kept (sums && target.saturating) target.width z) ∷ []) []) (same_live target.slot two.0) (same_term target.slot term two.1)
  same_effects (add_header header) all =
      ap₂ (λ (valid : Bool) (h : Header). cond valid [] (put_header header h ∷ [])) all.0.0 (same_zeros true header all.0.1)
  same_effects (remove_header header) all = ap (λ (h : Header). put_header header h ∷ []) (same_zeros false header all.0.1)
  same_effects (copy_header header from) all = ap (λ (h : Header). put_header header h ∷ []) all.0
  same_effects (push stack count) all = ap (λ (l : List Header). put_stack stack (pushed count l) ∷ []) all.0
  same_effects (pop stack count) all = ap (λ (l : List Header). put_stack stack (popped count l) ∷ []) all.0
  same_effects (count_cell object index) all = ap (λ (z : ℤ). count_packet object (wrapped 32 z) ∷ []) (same_source index all)
  same_effects (write_cell object index value) all =
      ap (λ (l : List Shape). put_cell object (index_of arguments r.state index) (wrapped (width_of (shape_at l object)) (source_number arguments r.state value)) ∷ []) rest.shapes
      ∙ same_both (λ x y. put_cell object (wrapped 32 x) (wrapped (width_of (shape_at m.store.shapes object)) y) ∷ []) index value all
  same_effects (execute_meter object index target) all =
      let two = both_same r m (target_reads target.slot) (source_reads index) all in
      ap₂ (λ (z : ℤ) (live : Bool). take_colour object (wrapped 32 z) target live ∷ []) (same_source index two.1) (same_live target.slot two.0)
  same_effects (ask kind session list) all = ap (λ (z : ℤ). put_request kind (record { session = wrapped 32 z; list = list }) ∷ []) (same_source session all)
  same_effects nothing all = refl
