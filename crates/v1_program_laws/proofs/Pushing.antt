-- `push_front` and `pop_front`.
use Rattle.std.proofs.Common.{◌≡◌, inl, inr, ℕ, ◌+◌, ◌-◌, ◌*◌, ◌/◌, ◌<◌, ◌||◌, Bool, true, false, cond, Option, Some, None, IfSome, List, [], ◌∷◌, length, refl, sym, ap, ◌∙◌, subst, arith}
use Rattle.std.specs.Prelude.{option_map, option_and_then, codes}
use Rattle.std.specs.Str.{bytes_eq}
use Rattle.std.proofs.Math.Nat.{mul-div_cancel}
use Rattle.std.proofs.lemmas.Slice.Eq.{bytes_eq-Decides}
use Rattle.p416_syntax.specs.declared.lexeme.Literal16.{Literal16}
use Rattle.p416_syntax.specs.Tree.{Exp16, literal, member, call, expression}
use Rattle.p416_syntax.specs.Names.{Name}
use Rattle.p416_syntax.specs.Kinds.{Kind, bits, nothing, stack}
use Rattle.p416_syntax.specs.Scopes.{Layout as TypeLayout, fields_in, Scope}
use Rattle.p416_syntax.specs.Calls.{Place, literal_of, method, method_signature}
use Rattle.p416_syntax.specs.Expressions.{kind_of}
use Rattle.p416_syntax.specs.Uses.{arguments_of, wanted_by}
use Rattle.p416_syntax.specs.Breaks.{BreaksNone, program_rules}
use Rattle.p416_syntax.specs.Declarations.{layouts_of}
use Rattle.v1_core.specs.Values.{Value, a_stack, Header, number_in, place_in, elements_in, Slice}
use Rattle.v1_core.specs.Frames as sem
use Rattle.v1_core.specs.Frames.{Frame, Reference, read, put_at}
use Rattle.v1_core.specs.Slots.{variable_kinds}
use Rattle.v1_core.specs.Surroundings as meaning
use Rattle.v1_core.specs.Numbered.{InScope}
use Rattle.v1_core.specs.Expressions.{Referred, literal_number, reference_of}
use Rattle.v1_core.specs.HeaderCalls as sem_calls
use Rattle.v1_core.specs.HeaderCalls.{stack_call}
use Rattle.v1_core.specs.Calls.{arguments_from, number_at, method_call}
use Rattle.v1_core.specs.Cells.{Cells, stack_place}
use Rattle.v1_core.specs.Seats.{Form, stack_form, Start, Seat}
use Rattle.v1_core.specs.PackedValues.{element_values}
use Rattle.v1_core.specs.Scopes.{IsScope}
use Rattle.v1_ready_forms.specs.Named.{NamedSeat, seats_in}
use Rattle.v1_ready_forms.specs.Spots.{Told}
use Rattle.v1_ready_laws.specs.Rules.{NamesSeated}
use Rattle.v1_ready_laws.proofs.Accepted.{accepted_narrow}
use Rattle.v1_ready_blocks.specs.declared.places.Range.{Range}
use Rattle.v1_ready_blocks.specs.Moments.{Moment, with_cells}
use Rattle.v1_ready_blocks.specs.Stacks.{pushed, popped}
use Rattle.v1_ready_blocks.specs.Tests.{World}
use Rattle.v1_ready_blocks.specs.Statements as ready
use Rattle.v1_ready_blocks.specs.Statements.{Deed, push_front, pop_front, does}
use Rattle.v1_place_laws.specs.Places.{Meant, meant_by, range_of, range_place_of}
use Rattle.v1_place_laws.specs.Finding.{IsAt}
use Rattle.v1_place_laws.proofs.Marking.{place_read}
use Rattle.v1_deed_laws.proofs.Whole.{part_written, put_shows}
use Rattle.v1_ready_statements.specs.Around.{Around}
use Rattle.v1_ready_statements.specs.Targets.{fixed_range, parts_meant}
use Rattle.v1_ready_statements.specs.Called.{stack_deed, method_deed, expression_ready}
use Rattle.v1_value_laws.specs.Kinds.{Fine, FormIs}
use Rattle.v1_value_laws.proofs.Formed.{meant_kind}
use Rattle.v1_statement_laws.specs.Behind.{Shown}
use Rattle.v1_statement_laws.specs.Leaves.{RunsAlike}
use Rattle.v1_statement_laws.proofs.Closing.{running_is}
use Rattle.v1_statement_laws.proofs.Ranging.{ToldFits, meant_fits}
use Rattle.v1_statement_laws.proofs.Sources.{IsHere, is_here}
use Rattle.v1_statement_laws.proofs.Calls.{called_alike}
use Rattle.v1_program_laws.proofs.Stacks.{Kept, pushed_is, popped_is}

abbrev no_slice : Option Slice
no_slice = None

at_some : {A : Type 0} (B : A → Type 0) (o : Option A) (x : A) → o ≡ Some x → IfSome o B → B x
at_some {A = A} B o x is h = subst (λ (p : Option A). IfSome p B) is h

-- what a stack means is told by no other
untold_stack : (types : List TypeLayout) (form : Form) (told : Option Told) (type : Name) (size : ℕ) → form ≡ stack_form type size → ToldFits types form told → told ≡ None
untold_stack types form None type size is fits = refl
untold_stack types form (Some t) type size is fits = absurd (subst (λ (f : Form). ToldFits types f (Some t)) is fits)

-- what moves in one part of a frame
module _ (P : Cells → Type 0) (b : Around) (w : meaning.World) (z : World) (s : Scope) (who : InScope) (accepted : BreaksNone b.syntax program_rules) (layouts : s.layouts ≡ layouts_of b.syntax.decls) (seated : NamesSeated s (seats_in b.syntax w.around.roots who)) (fine : Fine s) (scope : IsScope (length (variable_kinds b.syntax)) who) where
  abbrev seats : List NamedSeat
  seats = seats_in b.syntax w.around.roots who

  abbrev types : List TypeLayout
  types = layouts_of b.syntax.decls

  many_headers : (h size : ℕ) → h + size - h ≡ size
  many_headers h size = omega arith

  each_fields : (slot h size len : ℕ) → 0 < size → (slot + size * len - slot) / (h + size - h) ≡ len
  each_fields slot h size len lt =
      ap (λ (k : ℕ). (slot + size * len - slot) / k) (many_headers h size)
      ∙ (ap (λ (k : ℕ). k / size) (swapped slot size len) ∙ mul-div_cancel len lt) where
        swapped : (slot size len : ℕ) → slot + size * len - slot ≡ len * size
        swapped slot size len = omega arith

  module _ (depth : ℕ) (type : Name) (size : ℕ) (start : Start) (owner : Option ℕ) (r : Reference) (at : IsAt b.syntax who r None (record { depth = depth; form = stack_form type size; start = start; owner = owner })) (m : sem.Moment) (k : Moment) (h : Shown P b.syntax who m k) where
    abbrev t : Seat
    t = record { depth = depth; form = stack_form type size; start = start; owner = owner }

    stands : read m.frame r ≡ a_stack (stack_place k.cells start.stack) (element_values (fields_in (layouts_of b.syntax.decls) type) k.cells size start)
    stands = ap (λ (f : Frame). read f r) h.shows.frame ∙ place_read b.syntax k.cells who r None (record { depth = depth; form = stack_form type size; start = start; owner = owner }) h.shows.whole at

    abbrev KeptTo : Cells → Type 0
    KeptTo d = Kept b.syntax (accepted_narrow b.syntax accepted).0 (accepted_narrow b.syntax accepted).2 at.part depth type size start owner at.seat k.cells d

    -- the stack is written as a whole
    stack_put : (d : Cells) (list : List Header) → KeptTo d → element_values (fields_in (layouts_of b.syntax.decls) type) d size start ≡ list → Shown P b.syntax who (put_at r (a_stack (place_in (read m.frame r)) list) m) (with_cells d k)
    stack_put d list kept is =
        let v : Value = a_stack (place_in (read m.frame r)) list in
        let same : a_stack (place_in (read m.frame r)) list ≡ a_stack (stack_place d start.stack) (element_values (fields_in (layouts_of b.syntax.decls) type) d size start) =
        ap (λ (n : ℕ). a_stack n list) (ap place_in stands ∙ sym kept.place) ∙ ap (λ (l : List Header). a_stack (stack_place d start.stack) l) (sym is) in
        record {
          shows =
              put_shows b.syntax who m k r v d h.shows
              (part_written b.syntax k.cells who h.shows.whole scope d r t v at kept.untouched (λ live. same))
              (record { layout = kept.untouched.layout ∙ h.shows.whole.layout; whole = kept.whole });
          waits = h.waits;
        }

    abbrev range : Range
    range = range_of (layouts_of b.syntax.decls) (record { depth = depth; form = stack_form type size; start = start; owner = owner })

    push_shows : (count : ℕ) → Shown P b.syntax who (sem_calls.push_front r count m) (with_cells (pushed range count k.cells) k)
    push_shows count =
        let both = pushed_is b.syntax (accepted_narrow b.syntax accepted).0 (accepted_narrow b.syntax accepted).2 at.part depth type size start owner at.seat range refl refl (each_fields start.slot start.header size (length (fields_in (layouts_of b.syntax.decls) type))) k.cells count h.shows.whole (many_headers start.header size) in
        stack_put (pushed range count k.cells) (sem_calls.pushed count (elements_in (read m.frame r))) both.0 (both.1 ∙ ap (λ (v : Value). sem_calls.pushed count (elements_in v)) (sym stands))

    pop_shows : (count : ℕ) → Shown P b.syntax who (sem_calls.pop_front r count m) (with_cells (popped range count k.cells) k)
    pop_shows count =
        let both = popped_is b.syntax (accepted_narrow b.syntax accepted).0 (accepted_narrow b.syntax accepted).2 at.part depth type size start owner at.seat range refl refl (each_fields start.slot start.header size (length (fields_in (layouts_of b.syntax.decls) type))) k.cells count h.shows.whole (many_headers start.header size) in
        stack_put (popped range count k.cells) (sem_calls.popped count (elements_in (read m.frame r))) both.0 (both.1 ∙ ap (λ (v : Value). sem_calls.popped count (elements_in v)) (sym stands))

  -- the call, where the count is a literal that fits its width

  not_both : (word u v : Name) → bytes_eq u v ≡ false → bytes_eq word u ≡ true → bytes_eq word v ≡ false
  not_both word u v other is = subst (λ (x : Name). bytes_eq x v ≡ false) (sym ((bytes_eq-Decides word u).0 is)) other

  abbrev Fits : Literal16 → Type 0
  Fits n = number_in (literal_number (literal_of (bits 32)) n) ≡ n.value

  module _ (e handed : Exp16) (type word : Name) (size : ℕ) (n : Literal16) (kind : kind_of s e ≡ stack type size) (one : arguments_of handed ≡ literal n ∷ []) (fits : number_in (literal_number (literal_of (bits 32)) n) ≡ n.value) where
    leaves : (first second : Bool) → bytes_eq word (codes "push_front") ≡ first → bytes_eq word (codes "pop_front") ≡ second → (first || second) ≡ true → (m : sem.Moment) → method_call w s (kind_of s e) e word handed m ≡ (let x = reference_of w.around s e m in sem.going_on (stack_call word x.reference n.value) x.moment)
    leaves first second is_push is_pop either m =
        ap (λ (j : Kind). method_call w s j e word handed m) kind
        ∙ (ap (λ (es : List Exp16). let x = reference_of w.around s e m in let y = arguments_from w s (wanted_by (method_signature (stack type size) word)) es x.moment in sem.going_on (stack_call word x.reference (number_at y.given 0)) y.moment) one
        ∙ (wants first second is_push is_pop either
        ∙ ap (λ (c : ℕ). let x = reference_of w.around s e m in sem.going_on (stack_call word x.reference c) x.moment) fits)) where
          r : Referred
          r = reference_of w.around s e m

          called : List Place → sem.Moment
          called places = let y = arguments_from w s places (literal n ∷ []) (reference_of w.around s e m).moment in sem.going_on (stack_call word (reference_of w.around s e m).reference (number_at y.given 0)) y.moment

          wants : (first second : Bool) → bytes_eq word (codes "push_front") ≡ first → bytes_eq word (codes "pop_front") ≡ second → (first || second) ≡ true → (let y = arguments_from w s (wanted_by (method_signature (stack type size) word)) (literal n ∷ []) (reference_of w.around s e m).moment in sem.going_on (stack_call word (reference_of w.around s e m).reference (number_at y.given 0)) y.moment) ≡ sem.going_on (stack_call word (reference_of w.around s e m).reference (number_in (literal_number (literal_of (bits 32)) n))) (reference_of w.around s e m).moment
          wants true second is_push is_pop either =
              ap (λ (u : Bool). called (wanted_by (cond u (Some (method true (literal_of (bits 32) ∷ []) nothing)) (cond (bytes_eq word (codes "pop_front")) (Some (method true (literal_of (bits 32) ∷ []) nothing)) None)))) is_push
          wants false true is_push is_pop either =
              ap (λ (u : Bool). called (wanted_by (cond u (Some (method true (literal_of (bits 32) ∷ []) nothing)) (cond (bytes_eq word (codes "pop_front")) (Some (method true (literal_of (bits 32) ∷ []) nothing)) None)))) is_push
              ∙ ap (λ (u : Bool). called (wanted_by (cond u (Some (method true (literal_of (bits 32) ∷ []) nothing)) None))) is_pop
          wants false false is_push is_pop either = absurd (cc either)

    -- an l-value that is a stack, with its parts
    abbrev Alike : Deed → Type 0
    Alike d = RunsAlike P b w z s who [] (expression (call (member e word) handed)) (does d)

    form_of_stack : (x : Meant) → meant_by s seats e ≡ Some x → x.slice ≡ None → x.spot.seat.form ≡ stack_form type size
    form_of_stack x means whole =
        stack_is (subst (λ (j : Kind). FormIs s.layouts j x.spot.seat.form) kind (at_some (λ (y : Meant). y.slice ≡ None → FormIs s.layouts (kind_of s e) y.spot.seat.form) (meant_by s seats e) x means (meant_kind s seats e fine seated) whole)) where
          stack_is : FormIs s.layouts (stack type size) x.spot.seat.form → x.spot.seat.form ≡ stack_form type size
          stack_is (inl un) = absurd un
          stack_is (inr h) = h.0

    runs_on : (F : Reference → sem.Moment → sem.Moment) (G : Cells → Cells) (d : Deed) → ((m : sem.Moment) → method_call w s (kind_of s e) e word handed m ≡ sem.going_on (F (reference_of w.around s e m).reference) (reference_of w.around s e m).moment)
        → ((k : Moment) → ready.done z.apply d k ≡ with_cells (G k.cells) k)
        → (x : Meant) → meant_by s seats e ≡ Some x → x.slice ≡ None
        → ((r : Reference) (m : sem.Moment) (k : Moment) → IsAt b.syntax who r None (record { depth = x.spot.seat.depth; form = stack_form type size; start = x.spot.seat.start; owner = x.spot.seat.owner }) → Shown P b.syntax who m k → Shown P b.syntax who (F r m) (with_cells (G k.cells) k))
        → Alike d
    runs_on F G d leaves_is done_is x means whole moves =
        called_alike P b w z s who accepted layouts seated fine scope (member e word) handed d
        (λ m k h runs.
        let form : x.spot.seat.form ≡ stack_form type size = form_of_stack x means whole in
        let untold : x.spot.told ≡ None = untold_stack s.layouts x.spot.seat.form x.spot.told type size form (at_some (λ (y : Meant). ToldFits s.layouts y.spot.seat.form y.spot.told) (meant_by s seats e) x means (meant_fits s seats e)) in
        let here : IsHere P b w s who accepted layouts e x m = is_here P b w s who accepted layouts e x m k means whole untold h runs in
        let at : IsAt b.syntax who (reference_of w.around s e m).reference None (record { depth = x.spot.seat.depth; form = stack_form type size; start = x.spot.seat.start; owner = x.spot.seat.owner }) =
        subst (λ (f : Form). IsAt b.syntax who (reference_of w.around s e m).reference None (record { depth = x.spot.seat.depth; form = f; start = x.spot.seat.start; owner = x.spot.seat.owner })) form here.at in
        subst (λ (y : sem.Moment). Shown P b.syntax who y (ready.done z.apply d k)) (sym (leaves_is m))
        (subst (λ (y : Moment). Shown P b.syntax who (sem.going_on (F (reference_of w.around s e m).reference) (reference_of w.around s e m).moment) y) (sym (done_is k))
        (subst (λ (n : sem.Moment). Shown P b.syntax who (sem.going_on (F (reference_of w.around s e m).reference) n) (with_cells (G k.cells) k)) (sym here.stays)
        (subst (λ (y : sem.Moment). Shown P b.syntax who y (with_cells (G k.cells) k)) (sym (running_is m.stopped m (F (reference_of w.around s e m).reference m) runs))
        (moves (reference_of w.around s e m).reference m k at h)))))

    by_word : (first second : Bool) → bytes_eq word (codes "push_front") ≡ first → bytes_eq word (codes "pop_front") ≡ second → (x : Meant) → meant_by s seats e ≡ Some x → x.slice ≡ None → (r : Range) → r ≡ range_of (layouts_of b.syntax.decls) (record { depth = x.spot.seat.depth; form = stack_form type size; start = x.spot.seat.start; owner = x.spot.seat.owner })
        → IfSome (cond first (Some (push_front r n.value)) (cond second (Some (pop_front r n.value)) None)) Alike
    by_word true second is_push is_pop x means whole r r_is =
        runs_on (λ q m. sem_calls.push_front q n.value m) (λ c. pushed r n.value c) (push_front r n.value)
        (λ m. leaves true second is_push is_pop refl m ∙ ap (λ (u : Bool). let y = reference_of w.around s e m in sem.going_on (λ v. cond u (sem_calls.push_front y.reference n.value v) (cond (bytes_eq word (codes "pop_front")) (sem_calls.pop_front y.reference n.value v) v)) y.moment) is_push)
        (λ k. refl) x means whole
        (λ q m k at h. subst (λ (g : Range). Shown P b.syntax who (sem_calls.push_front q n.value m) (with_cells (pushed g n.value k.cells) k)) (sym r_is) (push_shows x.spot.seat.depth type size x.spot.seat.start x.spot.seat.owner q at m k h n.value))
    by_word false true is_push is_pop x means whole r r_is =
        runs_on (λ q m. sem_calls.pop_front q n.value m) (λ c. popped r n.value c) (pop_front r n.value)
        (λ m. leaves false true is_push is_pop refl m
        ∙ (ap (λ (u : Bool). let y = reference_of w.around s e m in sem.going_on (λ v. cond u (sem_calls.push_front y.reference n.value v) (cond (bytes_eq word (codes "pop_front")) (sem_calls.pop_front y.reference n.value v) v)) y.moment) is_push
        ∙ ap (λ (u : Bool). let y = reference_of w.around s e m in sem.going_on (λ v. cond u (sem_calls.pop_front y.reference n.value v) v) y.moment) is_pop))
        (λ k. refl) x means whole
        (λ q m k at h. subst (λ (g : Range). Shown P b.syntax who (sem_calls.pop_front q n.value m) (with_cells (popped g n.value k.cells) k)) (sym r_is) (pop_shows x.spot.seat.depth type size x.spot.seat.start x.spot.seat.owner q at m k h n.value))
    by_word false false is_push is_pop x means whole r r_is = tt

    -- the parts of it
    by_parts : (x : Meant) → meant_by s seats e ≡ Some x → IfSome (option_and_then fixed_range (parts_meant s.layouts x)) (λ r. (x.slice ≡ None) × (r ≡ range_of (layouts_of b.syntax.decls) (record { depth = x.spot.seat.depth; form = stack_form type size; start = x.spot.seat.start; owner = x.spot.seat.owner })))
    by_parts x means = by x.slice refl where
      by : (cut : Option Slice) → x.slice ≡ cut → IfSome (option_and_then fixed_range (parts_meant s.layouts (record { spot = x.spot; slice = cut }))) (λ r. (cut ≡ None) × (r ≡ range_of (layouts_of b.syntax.decls) (record { depth = x.spot.seat.depth; form = stack_form type size; start = x.spot.seat.start; owner = x.spot.seat.owner })))
      by (Some c) is = tt
      by None is =
          let form : x.spot.seat.form ≡ stack_form type size = form_of_stack x means is in
          let untold : x.spot.told ≡ None = untold_stack s.layouts x.spot.seat.form x.spot.told type size form (at_some (λ (y : Meant). ToldFits s.layouts y.spot.seat.form y.spot.told) (meant_by s seats e) x means (meant_fits s seats e)) in
          subst (λ (o : Option Told). IfSome (option_and_then fixed_range (range_place_of s.layouts (record { seat = x.spot.seat; told = o }))) (λ r. (no_slice ≡ None) × (r ≡ range_of (layouts_of b.syntax.decls) (record { depth = x.spot.seat.depth; form = stack_form type size; start = x.spot.seat.start; owner = x.spot.seat.owner })))) (sym untold)
          (subst (λ (f : Form). IfSome (option_and_then fixed_range (range_place_of s.layouts (record { seat = record { depth = x.spot.seat.depth; form = f; start = x.spot.seat.start; owner = x.spot.seat.owner }; told = None }))) (λ r. (no_slice ≡ None) × (r ≡ range_of (layouts_of b.syntax.decls) (record { depth = x.spot.seat.depth; form = stack_form type size; start = x.spot.seat.start; owner = x.spot.seat.owner })))) (sym form)
          (refl, ap (λ (l : List TypeLayout). range_of l (record { depth = x.spot.seat.depth; form = stack_form type size; start = x.spot.seat.start; owner = x.spot.seat.owner })) layouts))

    stack_does : IfSome (stack_deed s seats e word (literal n ∷ [])) Alike
    stack_does = by_meant (meant_by s seats e) refl where
      by_range : (x : Meant) → meant_by s seats e ≡ Some x → (o : Option Range) → IfSome o (λ r. (x.slice ≡ None) × (r ≡ range_of (layouts_of b.syntax.decls) (record { depth = x.spot.seat.depth; form = stack_form type size; start = x.spot.seat.start; owner = x.spot.seat.owner })))
          → IfSome (option_and_then (λ r. cond (bytes_eq word (codes "push_front")) (Some (push_front r n.value)) (cond (bytes_eq word (codes "pop_front")) (Some (pop_front r n.value)) None)) o) Alike
      by_range x means None h = tt
      by_range x means (Some r) h = by_word (bytes_eq word (codes "push_front")) (bytes_eq word (codes "pop_front")) refl refl x means h.0 r h.1

      by_meant : (o : Option Meant) → meant_by s seats e ≡ o → IfSome (option_and_then (λ r. cond (bytes_eq word (codes "push_front")) (Some (push_front r n.value)) (cond (bytes_eq word (codes "pop_front")) (Some (pop_front r n.value)) None)) (option_and_then fixed_range (option_and_then (parts_meant s.layouts) o))) Alike
      by_meant None means = tt
      by_meant (Some x) means = by_range x means (option_and_then fixed_range (parts_meant s.layouts x)) (by_parts x means)

    pub stack_called : IfSome (expression_ready b s seats (call (member e word) handed)) (RunsAlike P b w z s who [] (expression (call (member e word) handed)))
    stack_called =
        subst (λ (j : Kind). IfSome (option_map does (method_deed b s seats j e word (arguments_of handed))) (RunsAlike P b w z s who [] (expression (call (member e word) handed)))) (sym kind)
        (subst (λ (es : List Exp16). IfSome (option_map does (stack_deed s seats e word es)) (RunsAlike P b w z s who [] (expression (call (member e word) handed)))) (sym one)
        (each (stack_deed s seats e word (literal n ∷ [])) stack_does)) where
          each : (o : Option Deed) → IfSome o Alike → IfSome (option_map does o) (RunsAlike P b w z s who [] (expression (call (member e word) handed)))
          each None h = tt
          each (Some d) h = h
