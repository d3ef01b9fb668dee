-- Parsing leaves a state of the program, however it ends, and so does the update of calculated fields.
use Rattle.std.proofs.Common.{◌≡◌, ℕ, ◌<◌, ◌/◌, Bool, true, false, not, cond, Option, Some, None, List, [], ◌∷◌, length, sum, refl, sym, ap, ◌∙◌, subst, arith, ⊎_elim}
use Rattle.std.specs.Prelude.{ℤ, slice_index_or, codes}
use Rattle.std.specs.List.{AllZip}
use Rattle.std.specs.Option.{option_map_or}
use Rattle.std.proofs.lemmas.Bool.{cases_lt, ltb-true}
use Rattle.std.proofs.lemmas.List.{get_or-set_same, set_past, length-map}
use Rattle.std.proofs.lemmas.List.Elements.{All-drop, All-map, All-weaker}
use Rattle.p4x_bits.specs.BitLists.{octet_bits}
use Rattle.p414_syntax.specs.declared.parts.Index.{Index}
use Rattle.p414_syntax.specs.declared.parts.Index.TheVariants.{At, Next, Last}
use Rattle.p414_syntax.specs.declared.parts.Inst.{Inst}
use Rattle.p414_syntax.specs.declared.parts.Ref.{Ref}
use Rattle.p414_syntax.specs.declared.parsers.PStmt.TheVariants as pstmt
use Rattle.p414_syntax.specs.declared.syntax.Decl.{Decl}
use Rattle.p414_syntax.specs.declared.syntax.Decl.TheVariants as decl
use Rattle.p414_syntax.specs.declared.syntax.Sort.TheVariants as sort
use Rattle.p414_syntax.specs.Names.{Name, declared_in}
use Rattle.p414_syntax.specs.ParserGraph.{instance_number}
use Rattle.p414_syntax.specs.Totals.{elements_of}
use Rattle.p414_sem.specs.declared.parsed.Parsed.TheVariants.{OutOfPacket, OutOfBounds}
use Rattle.p414_sem.specs.Slots.{field_target}
use Rattle.p414_sem.specs.State.{written, Header, Instance, State, no_instance, place_of, size_of, with_header, cleared}
use Rattle.p414_sem.specs.Packing.{widths_of, numbers_in}
use Rattle.p414_sem.specs.Fitting.{FitsHeader, FitsInstance, IsState, greatest_place}
use Rattle.p414_sem.specs.Wholes.{wrapped}
use Rattle.p414_sem.specs.Parsing.{begun_instances, begun, goes_on, stops, has_bits, extracted_element, is_full, moved, filled, taken, extracted, most_states, parsed}
use Rattle.lower_laws_states.specs.Fits.{widths_in, IsElementOf}
use Rattle.lower_laws_states.specs.Programs.{FitsStatement, StatesFit}
use Rattle.lower_laws_states.proofs.States.{rebuilt, numbers, requests}
use Rattle.p414_sem.specs.Expanded.{Expanded}
use Rattle.p414_sem.specs.CalculatedFields.{updated}
use Rattle.lower_laws_states.proofs.Folds.{initialized_keeps, updated_keeps, standing, walk_keeps}
use Rattle.lower_laws_states.proofs.Instances.{instance_fits, with_instances_fit, kept_instance, kept_header, parts_of, cleared_fits}
use Rattle.lower_laws_states.proofs.Writing.{wrapped_below, written_fits}
use Rattle.lower_laws_states.proofs.Named.{widths_named, target_fits}
use Rattle.lower_laws_states.proofs.Bits.{numbers_in_fit}

module _ (ds : List Decl) where
  -- as parsing begins

  begun_fit : (xs : List Decl) (is : List Instance) → AllZip (FitsInstance ds) xs is → AllZip (FitsInstance ds) xs (begun_instances xs is)
  begun_fit [] [] fit = tt
  begun_fit [] (i ∷ is) fit = absurd fit
  begun_fit (x ∷ xs) [] fit = absurd fit
  begun_fit (decl.Header x ∷ xs) (i ∷ is) fit = (
    record {
      each = All-map (FitsHeader (widths_in ds (decl.Header x))) (cleared false) i.elements
          (All-weaker (IsElementOf ds (decl.Header x)) (λ h. FitsHeader (widths_in ds (decl.Header x)) (cleared false h))
          (λ h one. (cleared_fits ds (decl.Header x) h one false (λ e. absurd (cc e))).fits) i.elements (parts_of ds (decl.Header x) i fit.0).each);
      count = length-map i.elements (cleared false) ∙ fit.0.count;
      place = omega arith;
    },
    begun_fit xs is fit.1,
  )
  begun_fit (decl.Metadata x ∷ xs) (i ∷ is) fit = (fit.0, begun_fit xs is fit.1)
  begun_fit (_ ∷ xs) (i ∷ is) fit = absurd fit.0

  -- a field that is written by its name
  pub named_fits : (r : Ref) (z : ℤ) (s : State) → IsState ds s → Unit {0} → IsState ds (written s (field_target ds r).slot (wrapped (field_target ds r).width z))
  named_fits r z s state fit = written_fits ds s state (field_target ds r).slot _ (target_fits ds r _ (wrapped_below (field_target ds r).width z))

  pub begun_fits : (s : State) → IsState ds s → IsState ds (begun ds s)
  begun_fits s state =
      let xs = declared_in sort.Instance ds in
      initialized_keeps ds (IsState ds) (λ r. Unit {0}) named_fits xs (λ x h field. tt) _ (with_instances_fit ds s state (begun_instances xs s.instances) (begun_fit xs s.instances state.instances))

  -- what is extracted

  filled_fits : (i : Inst) (s : State) → IsState ds s → IsState ds (filled ds i s)
  filled_fits i s state = kept_header ds s state (instance_number ds i.name) (extracted_element ds s i) header (λ d is inside old.
      let same : widths_in ds d ≡ widths_of ds i.name = ap (λ (o : Option Decl). option_map_or (widths_in ds) o []) (sym is) ∙ widths_named ds i.name in record {
        fits = subst (λ widths. FitsHeader widths header) (sym same) (record { numbers = numbers_in_fit (widths_of ds i.name) (octet_bits s.unparsed); zeros = λ e. absurd (cc e) });
        metadata = λ e. refl;
      })
    where
      header : Header
      header = record { valid = true; numbers = numbers_in (widths_of ds i.name) (octet_bits s.unparsed) }

  taken_fits : (i : Inst) (s : State) → IsState ds s → IsState ds (taken ds i s)
  taken_fits i s state =
      rebuilt ds (taken ds i s) state.instances (All-drop (λ octet. octet < 256) (sum (widths_of ds i.name) / 8) s.unparsed state.unparsed) (numbers ds s state) (requests ds s state) state.events

  same_place : (s : State) (n e : ℕ) (h : Header) → place_of (with_header s n e h) n ≡ place_of s n
  same_place s n e h =
      ⊎_elim (λ lt. ap (λ (i : Instance). i.place) (get_or-set_same s.instances n _ no_instance lt))
      (λ past. ap (λ l. (slice_index_or l n no_instance).place) (set_past s.instances n _ past)) (cases_lt n (length s.instances))

  moved_fits : (name : Name) (ix : Option Index) (s t : State) → IsState ds s → IsState ds t → place_of t (instance_number ds name) ≡ place_of s (instance_number ds name) → FitsStatement ds (pstmt.Extract (record { name = name; index = ix })) → is_full ds s (record { name = name; index = ix }) ≡ false → IsState ds (moved ds (record { name = name; index = ix }) t)
  moved_fits name None s t before state same asks free = state
  moved_fits name (Some (At n)) s t before state same asks free = state
  moved_fits name (Some Last) s t before state same asks free = state
  moved_fits name (Some Next) s t before state same asks free =
      kept_instance ds t state (instance_number ds name) _ (λ d is old. record {
        each = old.each;
        count = old.count;
        place =
            let there = instance_fits ds s before (instance_number ds name) d is in
            let stack = asks refl d is in
            let lt : place_of s (instance_number ds name) < size_of s (instance_number ds name) = ltb-true _ _ (of_not _ free) in
            omega (arith, same, lt, there.count, ap elements_of stack.1, ap greatest_place stack.1);
      })
    where
      of_not : (b : Bool) → not b ≡ false → b ≡ true
      of_not true e = refl
      of_not false e = absurd (cc e)

  extracted_fits : (i : Inst) (s : State) → IsState ds s → FitsStatement ds (pstmt.Extract i) → IsState ds (standing (extracted ds i s))
  extracted_fits i s state asks = by (is_full ds s i) (has_bits s (sum (widths_of ds i.name))) refl where
    by : (full enough : Bool) → is_full ds s i ≡ full → IsState ds (standing (cond full (stops OutOfBounds s) (cond enough (goes_on (Some (record { instance = i; element = extracted_element ds s i })) (moved ds i (taken ds i (filled ds i s)))) (stops OutOfPacket s))))
    by true enough e = state
    by false false e = state
    by false true e =
        moved_fits i.name i.index s (taken ds i (filled ds i s)) state (taken_fits i (filled ds i s) (filled_fits i s state))
        (same_place s (instance_number ds i.name) (extracted_element ds s i) _) asks e

  pub parsed_fits : StatesFit ds → (s : State) → IsState ds s → IsState ds (parsed ds s).state
  unfolding parsed
  parsed_fits fits s state =
      walk_keeps ds (IsState ds) (λ r. Unit {0}) named_fits (FitsStatement ds) extracted_fits (λ r v fit. tt) fits (most_states ds s) (codes "start") (begun ds s) (begun_fits s state)

  -- calculated fields
  pub updated_fits : (x : Expanded) (s : State) → IsState ds s → IsState ds (updated ds x s)
  updated_fits x s state = updated_keeps ds (IsState ds) (λ r. Unit {0}) named_fits x (λ f h. tt) s state
