-- Turns of the loops over the parts of frames.
use Rattle.std.proofs.Common.{◌≡◌, ℕ, suc, ◌+◌, ◌-◌, ◌<◌, ◌≤◌, refl, sym, ap, ◌∙◌, arith}
use Rattle.v1_core.specs.Cells.{Cells, header_valid, slot_value, stack_place, stack_size, with_validity, with_slot, with_stack_place}
use Rattle.std.specs.Prelude.{min, false, None}
use Rattle.v1_ready_blocks.specs.declared.places.Range.{Range}
use Rattle.v1_ready_blocks.specs.Places.{put, all_taken, all_copied, all_made, validity_taken, number_taken, place_taken, made_invalid, made_zero, made_first}
use Rattle.v1_ready_blocks.specs.Stacks.{element_copied, moved_down, moved_up}

pub one_less : (n i : ℕ) → i < n → n - i ≡ suc (n - (i + 1))
one_less n i h = omega (arith, h)

pub next : (from i : ℕ) → 1 + (from + i) ≡ from + (i + 1)
next from i = omega arith

pub none_left : (n i : ℕ) → n ≤ i → n - i ≡ 0
none_left n i h = omega (arith, h)

-- so many parts of another frame

pub record Taking (take : ℕ → ℕ → Cells → Cells → Cells) (n from to i : ℕ) (source old now : Cells) : Type 0 where
  pub layout : now.layout ≡ old.layout
  pub same : all_taken take (n - i) (from + i) (to + i) source now ≡ all_taken take n from to source old

module _ (take : ℕ → ℕ → Cells → Cells → Cells) where
  taking_begins : (n from to : ℕ) (source c : Cells) → Taking take n from to 0 source c c
  taking_begins n from to source c =
      let a : n - 0 ≡ n = omega arith in
      let b : from + 0 ≡ from = omega arith in
      let d : to + 0 ≡ to = omega arith in
      record {
        layout = refl;
        same = ap (λ k. all_taken take k (from + 0) (to + 0) source c) a ∙ ap (λ k. all_taken take n k (to + 0) source c) b ∙ ap (λ k. all_taken take n from k source c) d;
      }

  taking_goes : (n from to i : ℕ) (source old now new : Cells) → i < n → new ≡ take (from + i) (to + i) source now → new.layout ≡ now.layout → Taking take n from to i source old now → Taking take n from to (i + 1) source old new
  taking_goes n from to i source old now new h is layout g = record {
    layout = layout ∙ g.layout;
    same =
        ap (λ c. all_taken take (n - (i + 1)) (from + (i + 1)) (to + (i + 1)) source c) is
        ∙ ap (λ k. all_taken take (n - (i + 1)) k (to + (i + 1)) source (take (from + i) (to + i) source now)) (sym (next from i))
        ∙ ap (λ k. all_taken take (n - (i + 1)) (1 + (from + i)) k source (take (from + i) (to + i) source now)) (sym (next to i))
        ∙ ap (λ k. all_taken take k (from + i) (to + i) source now) (sym (one_less n i h))
        ∙ g.same;
  }

  taking_ends : (n from to i : ℕ) (source old now : Cells) → n ≤ i → Taking take n from to i source old now → now ≡ all_taken take n from to source old
  taking_ends n from to i source old now h g =
      sym (ap (λ k. all_taken take k (from + i) (to + i) source now) (none_left n i h)) ∙ g.same

-- within one frame

pub record Copying (take : ℕ → ℕ → Cells → Cells → Cells) (n from to i : ℕ) (old now : Cells) : Type 0 where
  pub layout : now.layout ≡ old.layout
  pub same : all_copied take (n - i) (from + i) (to + i) now ≡ all_copied take n from to old

module _ (take : ℕ → ℕ → Cells → Cells → Cells) where
  copying_begins : (n from to : ℕ) (c : Cells) → Copying take n from to 0 c c
  copying_begins n from to c =
      let a : n - 0 ≡ n = omega arith in
      let b : from + 0 ≡ from = omega arith in
      let d : to + 0 ≡ to = omega arith in
      record {
        layout = refl;
        same = ap (λ k. all_copied take k (from + 0) (to + 0) c) a ∙ ap (λ k. all_copied take n k (to + 0) c) b ∙ ap (λ k. all_copied take n from k c) d;
      }

  copying_goes : (n from to i : ℕ) (old now new : Cells) → i < n → new ≡ take (from + i) (to + i) now now → new.layout ≡ now.layout → Copying take n from to i old now → Copying take n from to (i + 1) old new
  copying_goes n from to i old now new h is layout g = record {
    layout = layout ∙ g.layout;
    same =
        ap (λ c. all_copied take (n - (i + 1)) (from + (i + 1)) (to + (i + 1)) c) is
        ∙ ap (λ k. all_copied take (n - (i + 1)) k (to + (i + 1)) (take (from + i) (to + i) now now)) (sym (next from i))
        ∙ ap (λ k. all_copied take (n - (i + 1)) (1 + (from + i)) k (take (from + i) (to + i) now now)) (sym (next to i))
        ∙ ap (λ k. all_copied take k (from + i) (to + i) now) (sym (one_less n i h))
        ∙ g.same;
  }

  copying_ends : (n from to i : ℕ) (old now : Cells) → n ≤ i → Copying take n from to i old now → now ≡ all_copied take n from to old
  copying_ends n from to i old now h g =
      sym (ap (λ k. all_copied take k (from + i) (to + i) now) (none_left n i h)) ∙ g.same

-- parts that become 0

pub record Making (make : ℕ → Cells → Cells) (n from i : ℕ) (old now : Cells) : Type 0 where
  pub layout : now.layout ≡ old.layout
  pub same : all_made make (n - i) (from + i) now ≡ all_made make n from old

module _ (make : ℕ → Cells → Cells) where
  making_begins : (n from : ℕ) (c : Cells) → Making make n from 0 c c
  making_begins n from c =
      let a : n - 0 ≡ n = omega arith in
      let b : from + 0 ≡ from = omega arith in
      record { layout = refl; same = ap (λ k. all_made make k (from + 0) c) a ∙ ap (λ k. all_made make n k c) b }

  making_goes : (n from i : ℕ) (old now new : Cells) → i < n → new ≡ make (from + i) now → new.layout ≡ now.layout → Making make n from i old now → Making make n from (i + 1) old new
  making_goes n from i old now new h is layout g = record {
    layout = layout ∙ g.layout;
    same =
        ap (λ c. all_made make (n - (i + 1)) (from + (i + 1)) c) is
        ∙ ap (λ k. all_made make (n - (i + 1)) k (make (from + i) now)) (sym (next from i))
        ∙ ap (λ k. all_made make k (from + i) now) (sym (one_less n i h))
        ∙ g.same;
  }

  making_ends : (n from i : ℕ) (old now : Cells) → n ≤ i → Making make n from i old now → now ≡ all_made make n from old
  making_ends n from i old now h g = sym (ap (λ k. all_made make k (from + i) now) (none_left n i h)) ∙ g.same

pub take_validity_begins : (n from to : ℕ) (source c : Cells) → Taking validity_taken n from to 0 source c c
take_validity_begins n from to source c = taking_begins validity_taken n from to source c

pub take_validity_goes : (n from to i : ℕ) (source old now new : Cells) → i < n → new ≡ with_validity now (to + i) (header_valid source (from + i)) → Taking validity_taken n from to i source old now → Taking validity_taken n from to (i + 1) source old new
take_validity_goes n from to i source old now new h is g = taking_goes validity_taken n from to i source old now new h is (ap (λ c. c.layout) is) g

pub take_validity_ends : (n from to i : ℕ) (source old now : Cells) → n ≤ i → Taking validity_taken n from to i source old now → now ≡ all_taken validity_taken n from to source old
take_validity_ends n from to i source old now h g = taking_ends validity_taken n from to i source old now h g

pub copy_validity_begins : (n from to : ℕ) (c : Cells) → Copying validity_taken n from to 0 c c
copy_validity_begins n from to c = copying_begins validity_taken n from to c

pub copy_validity_goes : (n from to i : ℕ) (old now new : Cells) → i < n → new ≡ with_validity now (to + i) (header_valid now (from + i)) → Copying validity_taken n from to i old now → Copying validity_taken n from to (i + 1) old new
copy_validity_goes n from to i old now new h is g = copying_goes validity_taken n from to i old now new h is (ap (λ c. c.layout) is) g

pub copy_validity_ends : (n from to i : ℕ) (old now : Cells) → n ≤ i → Copying validity_taken n from to i old now → now ≡ all_copied validity_taken n from to old
copy_validity_ends n from to i old now h g = copying_ends validity_taken n from to i old now h g

pub take_numbers_begins : (n from to : ℕ) (source c : Cells) → Taking number_taken n from to 0 source c c
take_numbers_begins n from to source c = taking_begins number_taken n from to source c

pub take_numbers_goes : (n from to i : ℕ) (source old now new : Cells) → i < n → new ≡ put (to + i) None (slot_value source (from + i)) now → Taking number_taken n from to i source old now → Taking number_taken n from to (i + 1) source old new
take_numbers_goes n from to i source old now new h is g = taking_goes number_taken n from to i source old now new h is (ap (λ c. c.layout) is) g

pub take_numbers_ends : (n from to i : ℕ) (source old now : Cells) → n ≤ i → Taking number_taken n from to i source old now → now ≡ all_taken number_taken n from to source old
take_numbers_ends n from to i source old now h g = taking_ends number_taken n from to i source old now h g

pub copy_numbers_begins : (n from to : ℕ) (c : Cells) → Copying number_taken n from to 0 c c
copy_numbers_begins n from to c = copying_begins number_taken n from to c

pub copy_numbers_goes : (n from to i : ℕ) (old now new : Cells) → i < n → new ≡ put (to + i) None (slot_value now (from + i)) now → Copying number_taken n from to i old now → Copying number_taken n from to (i + 1) old new
copy_numbers_goes n from to i old now new h is g = copying_goes number_taken n from to i old now new h is (ap (λ c. c.layout) is) g

pub copy_numbers_ends : (n from to i : ℕ) (old now : Cells) → n ≤ i → Copying number_taken n from to i old now → now ≡ all_copied number_taken n from to old
copy_numbers_ends n from to i old now h g = copying_ends number_taken n from to i old now h g

pub take_places_begins : (n from to : ℕ) (source c : Cells) → Taking place_taken n from to 0 source c c
take_places_begins n from to source c = taking_begins place_taken n from to source c

pub take_places_goes : (n from to i : ℕ) (source old now new : Cells) → i < n → new ≡ with_stack_place now (to + i) (min (stack_place source (from + i)) (stack_size now (to + i))) → Taking place_taken n from to i source old now → Taking place_taken n from to (i + 1) source old new
take_places_goes n from to i source old now new h is g = taking_goes place_taken n from to i source old now new h is (ap (λ c. c.layout) is) g

pub take_places_ends : (n from to i : ℕ) (source old now : Cells) → n ≤ i → Taking place_taken n from to i source old now → now ≡ all_taken place_taken n from to source old
take_places_ends n from to i source old now h g = taking_ends place_taken n from to i source old now h g

pub copy_places_begins : (n from to : ℕ) (c : Cells) → Copying place_taken n from to 0 c c
copy_places_begins n from to c = copying_begins place_taken n from to c

pub copy_places_goes : (n from to i : ℕ) (old now new : Cells) → i < n → new ≡ with_stack_place now (to + i) (min (stack_place now (from + i)) (stack_size now (to + i))) → Copying place_taken n from to i old now → Copying place_taken n from to (i + 1) old new
copy_places_goes n from to i old now new h is g = copying_goes place_taken n from to i old now new h is (ap (λ c. c.layout) is) g

pub copy_places_ends : (n from to i : ℕ) (old now : Cells) → n ≤ i → Copying place_taken n from to i old now → now ≡ all_copied place_taken n from to old
copy_places_ends n from to i old now h g = copying_ends place_taken n from to i old now h g

pub make_invalid_begins : (n from : ℕ) (c : Cells) → Making made_invalid n from 0 c c
make_invalid_begins n from c = making_begins made_invalid n from c

pub make_invalid_goes : (n from i : ℕ) (old now new : Cells) → i < n → new ≡ with_validity now (from + i) false → Making made_invalid n from i old now → Making made_invalid n from (i + 1) old new
make_invalid_goes n from i old now new h is g = making_goes made_invalid n from i old now new h is (ap (λ c. c.layout) is) g

pub make_invalid_ends : (n from i : ℕ) (old now : Cells) → n ≤ i → Making made_invalid n from i old now → now ≡ all_made made_invalid n from old
make_invalid_ends n from i old now h g = making_ends made_invalid n from i old now h g

pub make_zero_begins : (n from : ℕ) (c : Cells) → Making made_zero n from 0 c c
make_zero_begins n from c = making_begins made_zero n from c

pub make_zero_goes : (n from i : ℕ) (old now new : Cells) → i < n → new ≡ with_slot now (from + i) 0 → Making made_zero n from i old now → Making made_zero n from (i + 1) old new
make_zero_goes n from i old now new h is g = making_goes made_zero n from i old now new h is (ap (λ c. c.layout) is) g

pub make_zero_ends : (n from i : ℕ) (old now : Cells) → n ≤ i → Making made_zero n from i old now → now ≡ all_made made_zero n from old
make_zero_ends n from i old now h g = making_ends made_zero n from i old now h g

pub make_first_begins : (n from : ℕ) (c : Cells) → Making made_first n from 0 c c
make_first_begins n from c = making_begins made_first n from c

pub make_first_goes : (n from i : ℕ) (old now new : Cells) → i < n → new ≡ with_stack_place now (from + i) 0 → Making made_first n from i old now → Making made_first n from (i + 1) old new
make_first_goes n from i old now new h is g = making_goes made_first n from i old now new h is (ap (λ c. c.layout) is) g

pub make_first_ends : (n from i : ℕ) (old now : Cells) → n ≤ i → Making made_first n from i old now → now ≡ all_made made_first n from old
make_first_ends n from i old now h g = making_ends made_first n from i old now h g

-- elements that move

pub record MovingUp (stack : Range) (distance count left : ℕ) (old now : Cells) : Type 0 where
  pub layout : now.layout ≡ old.layout
  pub most : left ≤ count
  pub same : moved_up stack distance left now ≡ moved_up stack distance count old

pub up_begins : (stack : Range) (distance count : ℕ) (c : Cells) → MovingUp stack distance count count c c
up_begins stack distance count c = record { layout = refl; most = omega arith; same = refl }

pub up_goes : (stack : Range) (distance count left : ℕ) (old now new : Cells) → 0 < left → new ≡ element_copied stack (left - 1) (left - 1 + distance) now → new.layout ≡ now.layout → MovingUp stack distance count left old now → MovingUp stack distance count (left - 1) old new
up_goes stack distance count left old now new h is layout g =
    let one : left ≡ suc (left - 1) = omega (arith, h) in
    record {
      layout = layout ∙ g.layout;
      most = omega (arith, g.most);
      same = ap (moved_up stack distance (left - 1)) is ∙ ap (λ k. moved_up stack distance k now) (sym one) ∙ g.same;
    }

pub up_ends : (stack : Range) (distance count left : ℕ) (old now : Cells) → left ≤ 0 → MovingUp stack distance count left old now → now ≡ moved_up stack distance count old
up_ends stack distance count left old now h g =
    let none : left ≡ 0 = omega (arith, h) in sym (ap (λ k. moved_up stack distance k now) none) ∙ g.same

pub record MovingDown (stack : Range) (distance count i : ℕ) (old now : Cells) : Type 0 where
  pub layout : now.layout ≡ old.layout
  pub same : moved_down stack distance (distance + i) (count - i) now ≡ moved_down stack distance distance count old

pub down_begins : (stack : Range) (distance count : ℕ) (c : Cells) → MovingDown stack distance count 0 c c
down_begins stack distance count c =
    let a : count - 0 ≡ count = omega arith in
    let b : distance + 0 ≡ distance = omega arith in
    record { layout = refl; same = ap (λ k. moved_down stack distance (distance + 0) k c) a ∙ ap (λ k. moved_down stack distance k count c) b }

pub down_goes : (stack : Range) (distance count i : ℕ) (old now new : Cells) → i < count → new ≡ element_copied stack (distance + i) i now → new.layout ≡ now.layout → MovingDown stack distance count i old now → MovingDown stack distance count (i + 1) old new
down_goes stack distance count i old now new h is layout g =
    let there : i ≡ distance + i - distance = omega arith in
    record {
      layout = layout ∙ g.layout;
      same =
          ap (λ c. moved_down stack distance (distance + (i + 1)) (count - (i + 1)) c) is
          ∙ ap (λ k. moved_down stack distance k (count - (i + 1)) (element_copied stack (distance + i) i now)) (sym (next distance i))
          ∙ ap (λ k. moved_down stack distance (1 + (distance + i)) (count - (i + 1)) (element_copied stack (distance + i) k now)) there
          ∙ ap (λ k. moved_down stack distance (distance + i) k now) (sym (one_less count i h))
          ∙ g.same;
    }

pub down_ends : (stack : Range) (distance count i : ℕ) (old now : Cells) → count ≤ i → MovingDown stack distance count i old now → now ≡ moved_down stack distance distance count old
down_ends stack distance count i old now h g =
    sym (ap (λ k. moved_down stack distance (distance + i) k now) (none_left count i h)) ∙ g.same
