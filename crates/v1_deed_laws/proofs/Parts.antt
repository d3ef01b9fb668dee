-- A header, a stack or a struct written to an l-value is copied to its parts.
use Rattle.std.proofs.Common.{◌≡◌, ◌⊎◌, inl, inr, ℕ, zero, suc, ◌+◌, ◌%◌, ◌^◌, min, ◌<◌, ◌≤◌, Bool, true, false, cond, Option, Some, List, [], ◌∷◌, length, get_or, set, refl, sym, ap, ◌∙◌, subst, arith, pow_pos}
use Rattle.std.proofs.Math.Nat.{mod-eq_of_lt}
use Rattle.std.proofs.lemmas.List.{get_or_past}
use Rattle.p416_syntax.specs.declared.program.Syntax16.{Syntax16}
use Rattle.p416_syntax.specs.Scopes.{Layout as TypeLayout, FieldKind, fields_in}
use Rattle.p416_syntax.specs.Declarations.{layouts_of}
use Rattle.v1_core.specs.Values.{Value, fitted}
use Rattle.v1_core.specs.Numbers.{is_same_truth}
use Rattle.v1_core.specs.Slots.{FramePart}
use Rattle.v1_core.specs.Layouts.{Layout}
use Rattle.v1_core.specs.Cells.{Cells, is_live, header_valid, header_slots, cleared_numbers, with_validity, stack_place, stack_size, with_stack_place, AreWhole}
use Rattle.v1_core.specs.Seats.{Form, slot_form, header_form, stack_form, struct_form, no_form, Start, behind, Seat, behind_seat}
use Rattle.v1_core.specs.PackedValues.{value_from, member_values, seat_value}
use Rattle.v1_core.specs.Laid.{IsLaid, IsLaidAt, OwnersAgree}
use Rattle.v1_core.specs.Programs.{frame_kinds, part_seat}
use Rattle.v1_core.specs.PackedFrames.{IsFrameOf}
use Rattle.v1_core.proofs.Starts.{Before}
use Rattle.v1_core.proofs.Laws.{program_laid}
use Rattle.v1_ready_laws.specs.Widths.{IsWide, KindsNarrow, TypesNarrow}
use Rattle.v1_ready_laws.proofs.Steps.{Stands}
use Rattle.v1_ready_laws.proofs.Accepted.{accepted_narrow}
use Rattle.v1_ready_blocks.specs.declared.places.Range.{Range}
use Rattle.v1_ready_blocks.specs.Places.{slot_width, all_copied, validity_taken, number_taken, place_taken, copied}
use Rattle.v1_parser_laws.specs.Ranges.{IsRangeOf}
use Rattle.v1_parser_laws.proofs.Parts.{below_or, header_there}
use Rattle.v1_place_laws.proofs.Writing.{part_stands}
use Rattle.v1_deed_laws.specs.Forms.{OneForm, IsParted}
use Rattle.v1_deed_laws.specs.Laws.{PartsPut}
use Rattle.v1_deed_laws.proofs.Whole.{Untouched, part_written, put_shows}
use Rattle.v1_deed_laws.proofs.Alike.{Offset, behind_offset, Shifted, value_alike}
use Rattle.v1_deed_laws.proofs.Matching.{Matches, forms_match}
use Rattle.v1_deed_laws.proofs.Apart.{parts_placed, one_or_apart}
use Rattle.v1_deed_laws.proofs.Copying.{copies}

-- parts that are copied to themselves stay

put_back : {A : Type 0} (xs : List A) (i : ℕ) (d : A) → set xs i (get_or xs i d) ≡ xs
put_back [] zero d = refl
put_back [] (suc i) d = refl
put_back (x ∷ xs) zero d = refl
put_back (x ∷ xs) (suc i) d = ap (λ ys. x ∷ ys) (put_back xs i d)

same_truths : (b : Bool) → is_same_truth b b ≡ true
same_truths true = refl
same_truths false = refl

validity_back : (c : Cells) (i : ℕ) → with_validity c i (header_valid c i) ≡ c
validity_back c i =
    ap (λ (b : Bool). record c { numbers = cond b c.numbers (cleared_numbers (header_slots c i) c.numbers); valids = set c.valids i (header_valid c i) }) (same_truths (header_valid c i))
    ∙ ap (λ (l : List Bool). record c { valids = l }) (put_back c.valids i false)

-- a number fits where it stands
fits_back : (c : Cells) (i : ℕ) → AreWhole c → get_or c.numbers i 0 % 2 ^ slot_width c i ≡ get_or c.numbers i 0
fits_back c i whole = by (below_or i (length c.layout.widths)) where
  by : (i < length c.layout.widths) ⊎ (length c.layout.widths ≤ i) → get_or c.numbers i 0 % 2 ^ slot_width c i ≡ get_or c.numbers i 0
  by (inl lt) = mod-eq_of_lt (whole.fits i lt)
  by (inr le) =
      let none : get_or c.numbers i 0 ≡ 0 = get_or_past c.numbers i 0 (omega (arith, le, whole.numbers)) in
      ap (λ (n : ℕ). n % 2 ^ slot_width c i) none ∙ (mod-eq_of_lt (pow_pos (slot_width c i)) ∙ sym none)

number_back : (c : Cells) (i : ℕ) → AreWhole c → number_taken i i c c ≡ c
number_back c i whole = by (is_live c i) where
  by : (live : Bool) → record c { numbers = cond live (set c.numbers i (cond live (get_or c.numbers i 0) 0 % 2 ^ slot_width c i)) c.numbers } ≡ c
  by true = ap (λ (n : ℕ). record c { numbers = set c.numbers i n }) (fits_back c i whole) ∙ ap (λ (l : List ℕ). record c { numbers = l }) (put_back c.numbers i 0)
  by false = refl

place_back : (c : Cells) (i : ℕ) → AreWhole c → place_taken i i c c ≡ c
place_back c i whole =
    ap (λ (n : ℕ). with_stack_place c i n) (least (stack_place c i) (stack_size c i) (whole.within i))
    ∙ ap (λ (l : List ℕ). record c { places = l }) (put_back c.places i 0) where
      least : (m n : ℕ) → m ≤ n → min m n ≡ m
      least m n le = omega (arith, le)

all_back : (step : ℕ → ℕ → Cells → Cells → Cells) (n i : ℕ) (c : Cells) → ((j : ℕ) → step j j c c ≡ c) → all_copied step n i i c ≡ c
all_back step zero i c back = refl
all_back step (suc n) i c back = ap (all_copied step n (1 + i) (1 + i)) (back i) ∙ all_back step n (1 + i) c back

copied_back : (r q : Range) (c : Cells) → q.slot ≡ r.slot → q.header ≡ r.header → q.stack ≡ r.stack → AreWhole c → copied r q c ≡ c
copied_back r q c s h k whole =
    ap (λ (d : Cells). all_copied place_taken (min r.stacks q.stacks) r.stack q.stack (all_copied number_taken (min r.slots q.slots) r.slot q.slot d))
    (ap (λ (i : ℕ). all_copied validity_taken (min r.headers q.headers) r.header i c) h ∙ all_back validity_taken (min r.headers q.headers) r.header c (λ j. validity_back c j))
    ∙ (ap (all_copied place_taken (min r.stacks q.stacks) r.stack q.stack)
    (ap (λ (i : ℕ). all_copied number_taken (min r.slots q.slots) r.slot i c) s ∙ all_back number_taken (min r.slots q.slots) r.slot c (λ j. number_back c j whole))
    ∙ (ap (λ (i : ℕ). all_copied place_taken (min r.stacks q.stacks) r.stack i c) k ∙ all_back place_taken (min r.stacks q.stacks) r.stack c (λ j. place_back c j whole)))

-- a value with parts is written as it is
members_fit : (value : Form → Start → Value) (next : Form → Start → Start) (fields : List FieldKind) (b : Start) (v : Value) → fitted (member_values value next fields b) v ≡ v
members_fit value next [] b v = refl
members_fit value next (f ∷ fields) b v = refl

pub parted_fits : (types : List TypeLayout) (c : Cells) (n : ℕ) (k : Form) (b : Start) (v : Value) → IsParted k → fitted (value_from types c n k b) v ≡ v
parted_fits types c n (slot_form of) b v parted = absurd parted
parted_fits types c n (header_form type) b v parted = refl
parted_fits types c n (stack_form type size) b v parted = refl
parted_fits types c zero (struct_form type) b v parted = refl
parted_fits types c (suc n) (struct_form type) b v parted = members_fit (λ k s. value_from types c n k s) (λ k s. behind types n k s) (fields_in types type) b v
parted_fits types c n no_form b v parted = absurd parted

laid_whole : (l : Layout) (types : List TypeLayout) (n : ℕ) (k : Form) (b : Start) (owner : Option ℕ) → IsParted k → IsLaidAt l types n k b owner → IsLaid l types n k b
laid_whole l types n (slot_form of) b owner parted laid = absurd parted
laid_whole l types n (header_form type) b owner parted laid = laid
laid_whole l types n (stack_form type size) b owner parted laid = laid
laid_whole l types n (struct_form type) b owner parted laid = laid
laid_whole l types n no_form b owner parted laid = absurd parted

-- the copy, from parts u to parts t of one form
module _ (syntax : Syntax16) (c : Cells) (is : IsFrameOf syntax c) (narrow : TypesNarrow (layouts_of syntax.decls)) (kinds : KindsNarrow (frame_kinds syntax)) where
  agree : OwnersAgree c.layout
  agree = subst OwnersAgree (sym is.layout) (program_laid syntax).0.agree

  -- what a copy leaves
  pub record Copied (t u : Seat) (d : Cells) : Type 0 where
    pub untouched : Untouched c d t.start (behind_seat (layouts_of syntax.decls) t)
    pub whole : AreWhole d
    pub value : seat_value (layouts_of syntax.decls) d t ≡ seat_value (layouts_of syntax.decls) c u

  pub parts_copied : (p q : FramePart) (t u : Seat) (to from : Range) → part_seat syntax p ≡ Some t → part_seat syntax q ≡ Some u → IsParted t.form → OneForm (layouts_of syntax.decls) t u → IsRangeOf (layouts_of syntax.decls) t to → IsRangeOf (layouts_of syntax.decls) u from → Copied t u (copied from to c)
  parts_copied p q t u to from x y parted one range source = by (one_or_apart types t u (parts_placed syntax p q t u x y) off) where
    types : List TypeLayout
    types = layouts_of syntax.decls

    off : Offset t.start u.start (behind_seat types t) (behind_seat types u)
    off =
        subst (λ (s : Start). Offset t.start u.start (behind_seat types t) s) (sym one.ends)
        (behind_offset types t.depth t.form t.start u.start)

    back : Offset u.start t.start (behind_seat types u) (behind_seat types t)
    back = record { slot = sym off.slot; header = sym off.header; stack = sym off.stack }

    of_t : Stands c.layout types t
    of_t = part_stands syntax c p t is.layout narrow kinds x

    of_u : Stands c.layout types u
    of_u = part_stands syntax c q u is.layout narrow kinds y

    laid_t : IsLaid c.layout types t.depth t.form t.start
    laid_t = laid_whole c.layout types t.depth t.form t.start t.owner parted of_t.laid

    laid_u : IsLaid c.layout types t.depth t.form u.start
    laid_u = one.laid c.layout u.start (laid_whole c.layout types u.depth u.form u.start u.owner (subst IsParted (sym one.form) parted) of_u.laid)

    wide_u : IsWide c.layout types t.depth t.form u.start
    wide_u = one.wide c.layout u.start of_u.wide

    ends : behind types t.depth t.form u.start ≡ behind_seat types u
    ends = sym one.ends

    by : (t.start ≡ u.start) ⊎ (Before (behind_seat types t) u.start ⊎ Before (behind_seat types u) t.start) → Copied t u (copied from to c)
    by (inl same) =
        let stays : copied from to c ≡ c =
        copied_back from to c (range.slot ∙ (ap (λ (b : Start). b.slot) same ∙ sym source.slot)) (range.header ∙ (ap (λ (b : Start). b.header) same ∙ sym source.header)) (range.stack ∙ (ap (λ (b : Start). b.stack) same ∙ sym source.stack)) is.whole in
        subst (Copied t u) (sym stays)
        (record {
          untouched = record { layout = refl; values = λ values. refl; slots = λ i out. refl; headers = λ i out. refl; stacks = λ i out. refl };
          whole = is.whole;
          value = ap (value_from types c t.depth t.form) same ∙ one.value c u.start;
        })
    by (inr apart) =
        let across : Before (behind_seat types u) t.start ⊎ Before (behind_seat types t) u.start = swapped apart in
        let match_u : Matches c.layout u.start (behind_seat types u) t.start =
        subst (λ (s : Start). Matches c.layout u.start s t.start) ends (forms_match c types t.depth t.form u.start t.start laid_u laid_t wide_u of_t.wide) in
        let match_t : Matches c.layout t.start (behind_seat types t) u.start = forms_match c types t.depth t.form t.start u.start laid_t laid_u of_t.wide wide_u in
        let all = copies c u.start (behind_seat types u) t.start (behind_seat types t) agree is.whole back across match_u match_t
        (λ h le lt. header_there c.layout types t.depth t.form t.start laid_t h le lt) from to
        source.slot source.slots source.header source.headers source.stack source.stacks range.slot range.slots range.header range.headers range.stack range.stacks in
        record {
          untouched = all.0;
          whole = all.1;
          value =
              sym (value_alike types c (copied from to c) t.depth t.form u.start t.start (subst (λ (s : Start). Shifted c (copied from to c) u.start s t.start) (sym ends) all.2))
              ∙ one.value c u.start;
        } where
          swapped : Before (behind_seat types t) u.start ⊎ Before (behind_seat types u) t.start → Before (behind_seat types u) t.start ⊎ Before (behind_seat types t) u.start
          swapped (inl z) = inr z
          swapped (inr z) = inl z

pub parts_put : PartsPut
parts_put syntax who r t q u to from v m n keeps scope at there parted one range source is h =
    let accepted = accepted_narrow syntax keeps in
    let done : Copied syntax n.cells h.whole accepted.0 accepted.2 t u (copied from to n.cells) =
    parts_copied syntax n.cells h.whole accepted.0 accepted.2 at.part q t u to from at.seat there parted one range source in
    put_shows syntax who m n r v (copied from to n.cells) h
    (part_written syntax n.cells who h.whole scope (copied from to n.cells) r t v at done.untouched
    (λ live. parted_fits (layouts_of syntax.decls) n.cells t.depth t.form t.start v parted ∙ (is ∙ sym done.value)))
    (record { layout = done.untouched.layout ∙ h.whole.layout; whole = done.whole })
