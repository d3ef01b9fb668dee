-- A variable of a packed frame gets a value: the others, and all else in the frame, stay.
use Rattle.std.proofs.Common.{◌≡◌, ◌≢◌, inl, inr, ℕ, ◌%◌, ◌^◌, ◌==◌, ◌<◌, ◌≤◌, not, min, Bool, true, false, Option, Some, None, List, [], ◌∷◌, length, get_or, refl, sym, ap, ◌∙◌, subst, arith, pow_pos}
use Rattle.std.proofs.lemmas.List.{get_or-set_other, get_or-set_same}
use Rattle.std.proofs.Math.Nat.{mod-eq_of_lt, mod-lt}
use Rattle.p4x_bits.specs.BitLists.{bit}
use Rattle.p416_syntax.specs.declared.program.Syntax16.{Syntax16}
use Rattle.p416_syntax.specs.Scopes.{Layout as TypeLayout}
use Rattle.p416_syntax.specs.Breaks.{BreaksNone, program_rules}
use Rattle.p416_syntax.specs.Declarations.{layouts_of}
use Rattle.v1_core.specs.Values.{Value, a_number, no_value, as_number, fitted}
use Rattle.v1_core.specs.Values as value
use Rattle.v1_core.specs.Frames as sem
use Rattle.v1_core.specs.Frames.{Frame}
use Rattle.v1_core.specs.Slots.{the_variable, FramePart, variable_kinds}
use Rattle.v1_core.specs.Numbered.{Numbered, Variable, InScope, nobody, named_values, frame_in, part_value, with_part_value, new_numbered}
use Rattle.v1_core.specs.Cells.{Cells, slot_value}
use Rattle.v1_core.specs.Seats.{Content, some_bits, a_truth, an_error, Form, slot_form, Seat, seat_behind, seat_at}
use Rattle.v1_core.specs.PackedValues.{content_value, seat_value}
use Rattle.v1_core.specs.Programs.{part_seat, owner_seat, numbered16, slot_width as width_of_content}
use Rattle.v1_core.specs.PackedFrames.{IsFrameOf}
use Rattle.v1_core.specs.Scopes.{AreAway}
use Rattle.v1_core.proofs.Laws.{part_put, part_read, slot_put}
use Rattle.v1_ready_laws.specs.Widths.{IsNarrow}
use Rattle.v1_ready_laws.proofs.Accepted.{accepted_narrow}
use Rattle.v1_ready_laws.proofs.Steps.{Stands}
use Rattle.v1_ready_blocks.specs.declared.places.Range.{Range}
use Rattle.v1_ready_blocks.specs.Moments.{Moment, with_cells}
use Rattle.v1_ready_blocks.specs.Places.{slot_width, put_value, copied, emptied}
use Rattle.v1_parser_laws.specs.Ranges.{IsRangeOf, all_of, IsBegun}
use Rattle.v1_parser_laws.proofs.Parts.{whole_number}
use Rattle.v1_parser_laws.proofs.Emptied.{emptied_begins}
use Rattle.v1_place_laws.specs.Laws.{FitsSlot}
use Rattle.v1_place_laws.proofs.Writing.{part_stands, variables_counted}
use Rattle.v1_deed_laws.specs.Forms.{IsParted, OneForm}
use Rattle.v1_deed_laws.proofs.Parts.{Copied, parts_copied, parted_fits}
use Rattle.v1_statement_laws.specs.Behind.{Shown}
use Rattle.v1_call_laws.proofs.Below.{slot_below}

-- the value of a variable by its number
abbrev pub value_at : Syntax16 → Cells → ℕ → Value
value_at syntax c j = get_or (numbered16 syntax c).variables j no_value

pub record IsSet (syntax : Syntax16) (c d : Cells) (n : ℕ) (v : Value) : Type 0 where
  pub whole : IsFrameOf syntax d
  pub same : frame_in nobody (numbered16 syntax d) ≡ frame_in nobody (numbered16 syntax c)
  pub value : value_at syntax d n ≡ v
  pub others : (j : ℕ) → j ≢ n → value_at syntax d j ≡ value_at syntax c j

-- frames where others are in scope

pub away_kept : (n : ℕ) (xs ys : List Value) (vs : List Variable) → AreAway n vs → ((j : ℕ) → j ≢ n → get_or xs j no_value ≡ get_or ys j no_value) → named_values xs vs ≡ named_values ys vs
away_kept n xs ys [] away same = refl
away_kept n xs ys (v ∷ vs) away same =
    ap (λ (x : Value). value.a_member v.called x (named_values xs vs)) (same v.number away.0)
    ∙ ap (λ (x : Value). value.a_member v.called (get_or ys v.number no_value) x) (away_kept n xs ys vs away.1 same)

-- the same frame, but for variables
pub same_frames : (who : InScope) (x y : Numbered) → frame_in nobody x ≡ frame_in nobody y → named_values x.variables who.variables ≡ named_values y.variables who.variables → named_values x.variables who.inner ≡ named_values y.variables who.inner → frame_in who x ≡ frame_in who y
same_frames who x y same outer inner =
    ap (λ (f : Frame). record f { variables = named_values x.variables who.variables; inner = named_values x.variables who.inner }) same
    ∙ (ap (λ (v : Value). record (frame_in nobody y) { variables = v; inner = named_values x.variables who.inner }) outer
    ∙ ap (λ (v : Value). record (frame_in nobody y) { variables = named_values y.variables who.variables; inner = v }) inner)

pub set_away : (syntax : Syntax16) (who : InScope) (c d : Cells) (n : ℕ) (v : Value) → IsSet syntax c d n v → AreAway n who.variables → AreAway n who.inner → frame_in who (numbered16 syntax d) ≡ frame_in who (numbered16 syntax c)
set_away syntax who c d n v is outer inner =
    same_frames who (numbered16 syntax d) (numbered16 syntax c) is.same
    (away_kept n (numbered16 syntax d).variables (numbered16 syntax c).variables who.variables outer is.others)
    (away_kept n (numbered16 syntax d).variables (numbered16 syntax c).variables who.inner inner is.others)

-- so moments stay one
pub cells_shown : (P : Cells → Type 0) (syntax : Syntax16) (who : InScope) (m : sem.Moment) (k : Moment) (d : Cells) → frame_in who (numbered16 syntax d) ≡ frame_in who (numbered16 syntax k.cells) → IsFrameOf syntax d → Shown P syntax who m k → Shown P syntax who m (with_cells d k)
cells_shown P syntax who m k d same whole h = record {
  shows = record {
    frame = h.shows.frame ∙ sym same;
    whole = whole;
    store = h.shows.store;
    unparsed = h.shows.unparsed;
    emitted = h.shows.emitted;
    work = h.shows.work;
    stopped = h.shows.stopped;
    hit = h.shows.hit;
  };
  waits = h.waits;
}

pub set_shown : (P : Cells → Type 0) (syntax : Syntax16) (who : InScope) (m : sem.Moment) (k : Moment) (d : Cells) (n : ℕ) (v : Value) → IsSet syntax k.cells d n v → AreAway n who.variables → AreAway n who.inner → Shown P syntax who m k → Shown P syntax who m (with_cells d k)
set_shown P syntax who m k d n v is outer inner h = cells_shown P syntax who m k d (set_away syntax who k.cells d n v is outer inner) is.whole h

-- by the part that a variable is
pub by_part : (syntax : Syntax16) (c d : Cells) (n : ℕ) (v u : Value) → n < length (variable_kinds syntax) → IsFrameOf syntax d → with_part_value (numbered16 syntax c) (all_of (the_variable n)) u ≡ numbered16 syntax d → fitted (value_at syntax c n) u ≡ v → IsSet syntax c d n v
by_part syntax c d n v u within whole put fits =
    let x : Numbered = numbered16 syntax c in
    record {
      whole = whole;
      same = ap (λ (y : Numbered). frame_in nobody y) (sym put);
      value =
          ap (λ (y : Numbered). get_or y.variables n no_value) (sym put)
          ∙ (get_or-set_same x.variables n (fitted (get_or x.variables n no_value) u) no_value (subst (λ (many : ℕ). n < many) (sym (variables_counted syntax c)) within) ∙ fits);
      others = λ j away.
          ap (λ (y : Numbered). get_or y.variables j no_value) (sym put)
          ∙ get_or-set_other x.variables n j (fitted (get_or x.variables n no_value) u) no_value away;
    }

-- widths

narrow_is : (width : ℕ) → width ≤ 128 → min width 128 ≡ width
narrow_is width le = omega (arith, le)

abbrev pub bits_of : Content → ℕ
bits_of (some_bits width) = width
bits_of a_truth = 1
bits_of an_error = 2

pub bits_are : (of : Content) (bits : ℕ) → bits ≡ width_of_content of → IsNarrow (slot_form of) → bits ≡ bits_of of
bits_are (some_bits width) bits wide narrow = wide ∙ narrow_is width narrow
bits_are a_truth bits wide narrow = wide
bits_are an_error bits wide narrow = wide

-- where a single value stands its number is below
pub number_below : (syntax : Syntax16) → BreaksNone syntax program_rules → (c : Cells) (p : FramePart) (t : Seat) (of : Content) → IsFrameOf syntax c → part_seat syntax p ≡ Some t → t.form ≡ slot_form of → slot_value c t.start.slot < 2 ^ bits_of of
number_below syntax accepted c p t of whole at form =
    let narrow = accepted_narrow syntax accepted in
    let here : Seat = record { depth = t.depth; form = slot_form of; start = t.start; owner = t.owner } in
    let stands : Stands c.layout (layouts_of syntax.decls) here = part_stands syntax c p here whole.layout narrow.0 narrow.2 (at ∙ ap (λ (f : Form). Some (record { depth = t.depth; form = f; start = t.start; owner = t.owner })) form) in
    subst (λ (n : ℕ). slot_value c t.start.slot < 2 ^ n) (bits_are of (slot_width c t.start.slot) stands.wide stands.narrow) (slot_below c [] whole.whole t.start.slot)

module _ (syntax : Syntax16) (accepted : BreaksNone syntax program_rules) (c : Cells) (whole : IsFrameOf syntax c) (n : ℕ) (t : Seat) (at : owner_seat syntax (the_variable n) ≡ Some t) (within : n < length (variable_kinds syntax)) where
  pub seated : part_seat syntax (all_of (the_variable n)) ≡ Some t
  seated = ap (λ (o : Option Seat). behind o) at where
    behind : Option Seat → Option Seat
    behind o = seat_behind (λ s. seat_at (layouts_of syntax.decls) [] s) o

  pub stands_as : value_at syntax c n ≡ seat_value (layouts_of syntax.decls) c t
  stands_as = part_read syntax c (all_of (the_variable n)) t whole.layout seated

  -- 0
  pub emptied_set : (r : Range) → IsRangeOf (layouts_of syntax.decls) t r → IsSet syntax c (emptied r c) n (part_value (new_numbered syntax) (all_of (the_variable n)))
  emptied_set r range =
      let begun : IsBegun syntax c (emptied r c) (the_variable n) = emptied_begins syntax c (the_variable n) t r whole at range in
      let x : Numbered = numbered16 syntax c in
      let v : Value = part_value (new_numbered syntax) (all_of (the_variable n)) in
      record {
        whole = begun.frame;
        same = ap (λ (y : Numbered). frame_in nobody y) (sym begun.value);
        value = begun.is;
        others = λ j away.
            ap (λ (y : Numbered). get_or y.variables j no_value) (sym begun.value)
            ∙ get_or-set_other x.variables n j (fitted (get_or x.variables n no_value) v) no_value away;
      }

  -- parts that are copied
  pub copied_set : (q : FramePart) (u : Seat) (to from : Range) → part_seat syntax q ≡ Some u → IsParted t.form → OneForm (layouts_of syntax.decls) t u → IsRangeOf (layouts_of syntax.decls) t to → IsRangeOf (layouts_of syntax.decls) u from → IsSet syntax c (copied from to c) n (seat_value (layouts_of syntax.decls) c u)
  copied_set q u to from there parted one range source =
      let narrow = accepted_narrow syntax accepted in
      let done : Copied syntax c whole narrow.0 narrow.2 t u (copied from to c) = parts_copied syntax c whole narrow.0 narrow.2 (all_of (the_variable n)) q t u to from seated there parted one range source in
      let types : List TypeLayout = layouts_of syntax.decls in
      by_part syntax c (copied from to c) n (seat_value types c u) (seat_value types c u) within (record { layout = done.untouched.layout ∙ whole.layout; whole = done.whole })
      ((part_put syntax c (copied from to c) (all_of (the_variable n)) (seat_value types c u) t whole.layout done.untouched.layout seated).put done.untouched.values
      (record {
        slots = λ i le lt. done.untouched.slots i (inl lt);
        headers = λ i le lt. done.untouched.headers i (inl lt);
        stacks = λ i le lt. done.untouched.stacks i (inl lt);
      })
      (record {
        slots = λ i le lt. done.untouched.slots i (inr le);
        headers = λ i le lt. done.untouched.headers i (inr le);
        stacks = λ i le lt. done.untouched.stacks i (inr le);
      })
      (λ live. parted_fits types c t.depth t.form t.start (seat_value types c u) parted ∙ sym done.value))
      (ap (λ (old : Value). fitted old (seat_value types c u)) stands_as ∙ parted_fits types c t.depth t.form t.start (seat_value types c u) parted)

  -- a single value

  truth_fits : (holds : Bool) → value.a_truth holds ≡ value.a_truth (not (bit holds % 2 ^ 1 == 0))
  truth_fits true = refl
  truth_fits false = refl

  fits : (of : Content) (old : ℕ) (bits : ℕ) (v : Value) → bits ≡ bits_of of → FitsSlot of None v → fitted (content_value of old) v ≡ content_value of (as_number v % 2 ^ bits)
  fits (some_bits width) old bits v is fit =
      ap (λ (k : ℕ). a_number width (k % 2 ^ width)) (sym fit) ∙ ap (λ (w : ℕ). a_number width (as_number v % 2 ^ w)) (sym is)
  fits a_truth old bits v is fit =
      fit.1.1
      ∙ (truth_fits fit.1.0
      ∙ (ap (λ (x : Value). value.a_truth (not (as_number x % 2 ^ 1 == 0))) (sym fit.1.1)
      ∙ ap (λ (w : ℕ). value.a_truth (not (as_number v % 2 ^ w == 0))) (sym is)))
  fits an_error old bits v is fit =
      fit.1.1
      ∙ (ap (λ (k : ℕ). value.an_error k) (sym (small fit.1.0 fit.1.2))
      ∙ (ap (λ (x : Value). value.an_error (as_number x % 2 ^ 2)) (sym fit.1.1)
      ∙ ap (λ (w : ℕ). value.an_error (as_number v % 2 ^ w)) (sym is))) where
        small : (k : ℕ) → k < 4 → k % 2 ^ 2 ≡ k
        small k lt = mod-eq_of_lt lt

  pub slot_set : (of : Content) (v : Value) → t.form ≡ slot_form of → FitsSlot of None v → IsSet syntax c (put_value t.start.slot None v c) n (fitted (value_at syntax c n) v)
  slot_set of v form fit =
      let narrow = accepted_narrow syntax accepted in
      let whole_seat : Seat = record { depth = t.depth; form = slot_form of; start = t.start; owner = t.owner } in
      let there : part_seat syntax (all_of (the_variable n)) ≡ Some whole_seat = seated ∙ ap (λ (f : Form). Some (record { depth = t.depth; form = f; start = t.start; owner = t.owner })) form in
      let stands : Stands c.layout (layouts_of syntax.decls) whole_seat = part_stands syntax c (all_of (the_variable n)) whole_seat whole.layout narrow.0 narrow.2 there in
      let number : ℕ = as_number v % 2 ^ slot_width c t.start.slot in
      by_part syntax c (put_value t.start.slot None v c) n (fitted (value_at syntax c n) v) v within
      (record { layout = whole.layout; whole = whole_number c t.start.slot number (mod-lt (as_number v) (pow_pos (slot_width c t.start.slot))) whole.whole })
      (slot_put syntax c (all_of (the_variable n)) v t.depth of t.start t.owner number whole there (fits of (slot_value c t.start.slot) (slot_width c t.start.slot) v (bits_are of (slot_width c t.start.slot) stands.wide stands.narrow) fit))
      refl
