-- The parameters of an action that a table calls get the numbers of the call.
use Rattle.std.proofs.Common.{◌≡◌, ◌⊎◌, inl, inr, ℕ, zero, suc, ◌+◌, ◌<◌, ◌≤◌, ◌≢◌, ◌%◌, ◌^◌, min, Option, Some, None, List, [], ◌∷◌, length, map, get_or, refl, sym, ap, ◌∙◌, subst, arith}
use Rattle.std.proofs.lemmas.List.{get_or-set_same, get_or-set_other}
use Rattle.p416_syntax.specs.declared.parts.Param.{Param}
use Rattle.p416_syntax.specs.Kinds.{Kind, bits}
use Rattle.p416_syntax.specs.Scopes.{Layout, Scope}
use Rattle.p416_syntax.specs.Breaks.{BreaksNone, program_rules}
use Rattle.p416_syntax.specs.Declarations.{layouts_of}
use Rattle.v1_core.specs.Values.{Value, no_value, a_member, a_number, fitted, zero_value}
use Rattle.v1_core.specs.Slots.{the_variable, variable_kinds, parameter_kind}
use Rattle.v1_core.specs.Numbered.{Numbered, nobody, named_values, frame_in, with_part_value}
use Rattle.v1_core.specs.Tables as meaning
use Rattle.v1_core.specs.Cells.{Cells, slot_value}
use Rattle.v1_core.specs.Seats.{some_bits, Form, slot_form, form_of, Start, behind, Seat, seat_behind, seat_at}
use Rattle.v1_core.specs.Programs.{frame_kinds, first_start, seat_in, owner_seat, part_seat, numbered16}
use Rattle.v1_core.specs.PackedValues.{content_value}
use Rattle.v1_core.specs.PackedFrames.{IsFrameOf}
use Rattle.v1_core.proofs.Laws.{slot_put, part_read}
use Rattle.v1_ready_laws.proofs.Steps.{Stands}
use Rattle.v1_ready_laws.proofs.Accepted.{accepted_narrow}
use Rattle.v1_ready_blocks.specs.Places.{put, slot_width}
use Rattle.v1_ready_blocks.specs.Tables as ready
use Rattle.v1_block_laws.specs.Standing.{IsOfKind, AreOfKinds}
use Rattle.v1_block_laws.specs.Variables.{parameters_from}
use Rattle.v1_parser_laws.specs.Ranges.{all_of}
use Rattle.v1_place_laws.proofs.Writing.{part_stands, variables_counted}
use Rattle.v1_deed_laws.proofs.Slots.{slot_whole}
use Rattle.v1_ready_statements.specs.Around.{Around, slot_of_seat}
use Rattle.v1_ready_statements.specs.Blocks.{slots_from}
use Rattle.v1_ready_statements.specs.Given.{cons_option}
use Rattle.v1_control_laws.specs.Tables.{HaveBits}

-- a variable of a kind stands at a seat of its form

pub record SeatOf (o : Option Seat) (k : Kind) : Type 0 where
  pub seat : Seat
  pub is : o ≡ Some seat
  pub form : seat.form ≡ form_of k

kind_seated : (types : List Layout) (kinds : List Kind) (b : Start) (n : ℕ) (k : Kind) → IsOfKind kinds n k → SeatOf (seat_in types kinds b n) k
kind_seated types [] b n k h = absurd (none n h.within) where
  none : (m : ℕ) → m < 0 → ⊥
  none m lt = omega arith
kind_seated types (j ∷ kinds) b zero k h = record {
  seat = record { depth = length types; form = form_of j; start = b; owner = None };
  is = refl;
  form = ap form_of h.kind;
}
kind_seated types (j ∷ kinds) b (suc n) k h =
    kind_seated types kinds (behind types (length types) (form_of j) b) n k (record { within = less n (length kinds) h.within; kind = h.kind }) where
      less : (m l : ℕ) → suc m < suc l → m < l
      less m l lt = omega arith

module _ (b : Around) (s : Scope) (accepted : BreaksNone b.syntax program_rules) (layouts : s.layouts ≡ layouts_of b.syntax.decls) where
  abbrev values : Cells → List Value
  values c = (numbered16 b.syntax c).variables

  abbrev pub value_at : Cells → ℕ → Value
  value_at c j = get_or (values c) j no_value

  -- of the variables only so many from one on changed
  pub record Bound (n count : ℕ) (c d : Cells) : Type 0 where
    pub whole : IsFrameOf b.syntax d
    pub same : frame_in nobody (numbered16 b.syntax d) ≡ frame_in nobody (numbered16 b.syntax c)
    pub others : (j : ℕ) → (j < n) ⊎ (n + count ≤ j) → value_at d j ≡ value_at c j

  -- one of them
  record OneBound (n : ℕ) (v : Value) (c d : Cells) : Type 0 where
    whole : IsFrameOf b.syntax d
    same : frame_in nobody (numbered16 b.syntax d) ≡ frame_in nobody (numbered16 b.syntax c)
    value : value_at d n ≡ v
    others : (j : ℕ) → j ≢ n → value_at d j ≡ value_at c j

  narrow_is : (width : ℕ) → width ≤ 128 → min width 128 ≡ width
  narrow_is width le = omega (arith, le)

  one_bound : (n a width : ℕ) (t : Seat) (c : Cells) → IsFrameOf b.syntax c → n < length (variable_kinds b.syntax) → owner_seat b.syntax (the_variable n) ≡ Some t → t.form ≡ slot_form (some_bits width) → OneBound n (a_number width (a % 2 ^ width)) c (put t.start.slot None a c)
  one_bound n a width t c whole within there form =
      let u : Seat = record { depth = t.depth; form = slot_form (some_bits width); start = t.start; owner = t.owner } in
      let at : owner_seat b.syntax (the_variable n) ≡ Some u = there ∙ ap (λ (f : Form). Some (record { depth = t.depth; form = f; start = t.start; owner = t.owner })) form in
      let narrow = accepted_narrow b.syntax accepted in
      let part : part_seat b.syntax (all_of (the_variable n)) ≡ Some u = ap (λ (o : Option Seat). seat_behind (λ x. seat_at (layouts_of b.syntax.decls) [] x) o) at in
      let stands : Stands c.layout (layouts_of b.syntax.decls) u = part_stands b.syntax c (all_of (the_variable n)) u whole.layout narrow.0 narrow.2 part in
      let wide : slot_width c t.start.slot ≡ width = stands.wide ∙ narrow_is width stands.narrow in
      let old : value_at c n ≡ a_number width (slot_value c t.start.slot) = part_read b.syntax c (all_of (the_variable n)) u whole.layout part in
      let fits : fitted (content_value (some_bits width) (slot_value c t.start.slot)) (a_number 0 a) ≡ content_value (some_bits width) (a % 2 ^ slot_width c t.start.slot) = ap (λ (k : ℕ). a_number width (a % 2 ^ k)) (sym wide) in
      let written : with_part_value (numbered16 b.syntax c) (all_of (the_variable n)) (a_number 0 a) ≡ numbered16 b.syntax (put t.start.slot None a c) =
      slot_put b.syntax c (all_of (the_variable n)) (a_number 0 a) t.depth (some_bits width) t.start t.owner (a % 2 ^ slot_width c t.start.slot) whole part fits in
      let many : n < length (values c) = subst (λ (l : ℕ). n < l) (sym (variables_counted b.syntax c)) within in
      record {
        whole = slot_whole b.syntax c t.start.slot None a whole;
        same = ap (λ (x : Numbered). frame_in nobody x) (sym written);
        value =
            ap (λ (x : Numbered). get_or x.variables n no_value) (sym written)
            ∙ (get_or-set_same (values c) n (fitted (value_at c n) (a_number 0 a)) no_value many ∙ ap (λ (v : Value). fitted v (a_number 0 a)) old);
        others = λ j differs. ap (λ (x : Numbered). get_or x.variables j no_value) (sym written) ∙ get_or-set_other (values c) n j (fitted (value_at c n) (a_number 0 a)) no_value differs;
      }

  -- all of them
  pub record AllBound (n : ℕ) (parameters : List Param) (slots : List ℕ) : Type 0 where
    pub slots_are : slots_from b n parameters ≡ Some slots
    pub bound : (numbers : List ℕ) (c : Cells) → length numbers ≡ length parameters → IsFrameOf b.syntax c → Bound n (length parameters) c (ready.bound_numbers slots numbers c)
    pub named : (numbers : List ℕ) (c : Cells) → length numbers ≡ length parameters → IsFrameOf b.syntax c → named_values (values (ready.bound_numbers slots numbers c)) (parameters_from n parameters) ≡ meaning.bound_numbers s parameters numbers

  nothing_bound : (n : ℕ) (c : Cells) → IsFrameOf b.syntax c → Bound n 0 c c
  nothing_bound n c whole = record { whole = whole; same = refl; others = λ j h. refl }

  one_less : (m n : ℕ) → suc m ≡ suc n → m ≡ n
  one_less m n e = omega (arith, e)

  never_none : (n : ℕ) → 0 ≡ suc n → ⊥
  never_none n e = omega (arith, e)

  slot_is : (t : Seat) (width : ℕ) → t.form ≡ slot_form (some_bits width) → slot_of_seat (Some t) ≡ Some t.start.slot
  slot_is t width form = ap (λ (f : Form). slot_of_seat (Some (record { depth = t.depth; form = f; start = t.start; owner = t.owner }))) form

  pub variable_at : (n : ℕ) (k : Kind) → IsOfKind (variable_kinds b.syntax) n k → SeatOf (owner_seat b.syntax (the_variable n)) k
  variable_at n k h =
      kind_seated (layouts_of b.syntax.decls) (frame_kinds b.syntax) first_start (suc (suc (suc n))) k
      (record { within = three n (length (variable_kinds b.syntax)) h.within; kind = h.kind }) where
        three : (m l : ℕ) → m < l → suc (suc (suc m)) < suc (suc (suc l))
        three m l lt = omega (arith, lt)

  first_bound : (n : ℕ) (p : Param) (parameters : List Param) (slots : List ℕ) (width : ℕ) (t : Seat) → n < length (variable_kinds b.syntax) → parameter_kind s p ≡ bits width → owner_seat b.syntax (the_variable n) ≡ Some t → t.form ≡ slot_form (some_bits width) → AllBound (suc n) parameters slots → AllBound n (p ∷ parameters) (t.start.slot ∷ slots)
  first_bound n p parameters slots width t within kind there form rest = record {
    slots_are =
        ap (λ (o : Option Seat). cons_option (slot_of_seat o) (slots_from b (suc n) parameters)) there
        ∙ (ap (λ (o : Option ℕ). cons_option o (slots_from b (suc n) parameters)) (slot_is t width form)
        ∙ ap (λ (o : Option (List ℕ)). cons_option (Some t.start.slot) o) rest.slots_are);
    bound = each;
    named = by_name;
  } where
    one : (a : ℕ) (c : Cells) → IsFrameOf b.syntax c → OneBound n (a_number width (a % 2 ^ width)) c (put t.start.slot None a c)
    one a c whole = one_bound n a width t c whole within there form

    each : (numbers : List ℕ) (c : Cells) → length numbers ≡ length (p ∷ parameters) → IsFrameOf b.syntax c → Bound n (length (p ∷ parameters)) c (ready.bound_numbers (t.start.slot ∷ slots) numbers c)
    each [] c many whole = absurd (never_none (length parameters) many)
    each (a ∷ numbers) c many whole =
        let first = one a c whole in
        let more = rest.bound numbers (put t.start.slot None a c) (one_less (length numbers) (length parameters) many) first.whole in
        record {
          whole = more.whole;
          same = more.same ∙ first.same;
          others = λ j h. more.others j (later j h) ∙ first.others j (differs j h);
        } where
          later : (j : ℕ) → (j < n) ⊎ (n + suc (length parameters) ≤ j) → (j < suc n) ⊎ (suc n + length parameters ≤ j)
          later j (inl lt) = inl (omega (arith, lt))
          later j (inr le) = inr (omega (arith, le))

          differs : (j : ℕ) → (j < n) ⊎ (n + suc (length parameters) ≤ j) → j ≢ n
          differs j (inl lt) same = omega (arith, lt, same)
          differs j (inr le) same = omega (arith, le, same)

    by_name : (numbers : List ℕ) (c : Cells) → length numbers ≡ length (p ∷ parameters) → IsFrameOf b.syntax c → named_values (values (ready.bound_numbers (t.start.slot ∷ slots) numbers c)) (parameters_from n (p ∷ parameters)) ≡ meaning.bound_numbers s (p ∷ parameters) numbers
    by_name [] c many whole = absurd (never_none (length parameters) many)
    by_name (a ∷ numbers) c many whole =
        let first = one a c whole in
        let d : Cells = put t.start.slot None a c in
        let fewer = one_less (length numbers) (length parameters) many in
        let more = rest.bound numbers d fewer first.whole in
        let begins : n < suc n = omega arith in
        let value : value_at (ready.bound_numbers slots numbers d) n ≡ a_number width (a % 2 ^ width) = more.others n (inl begins) ∙ first.value in
        ap (λ (v : Value). a_member p.name v (named_values (values (ready.bound_numbers slots numbers d)) (parameters_from (suc n) parameters))) value
        ∙ (ap (λ (v : Value). a_member p.name (a_number width (a % 2 ^ width)) v) (rest.named numbers d fewer first.whole)
        ∙ ap (λ (k : Kind). a_member p.name (fitted (zero_value s.layouts k) (a_number 0 a)) (meaning.bound_numbers s parameters numbers)) (sym kind))

  pub all_bound : (n : ℕ) (parameters : List Param) → HaveBits s parameters → AreOfKinds (variable_kinds b.syntax) n (map (parameter_kind s) parameters) → (slots : List ℕ) × AllBound n parameters slots
  all_bound n [] are kinds = ([], record { slots_are = refl; bound = λ numbers c many whole. nothing_bound n c whole; named = λ numbers c many whole. refl })
  all_bound n (p ∷ parameters) are kinds =
      let rest = all_bound (suc n) parameters are.1 kinds.1 in
      let at = variable_at n (parameter_kind s p) kinds.0 in
      (at.seat.start.slot ∷ rest.0, first_bound n p parameters rest.0 are.0.0 at.seat kinds.0.within are.0.1 at.is (at.form ∙ ap form_of are.0.1) rest.1)
