-- An effect that fits leaves a state of the program; so does a primitive, a list of primitives under both rules, an action.
use Rattle.std.proofs.Common.{◌≡◌, ℕ, ◌<◌, Bool, true, false, cond, ◌&&◌, Some, List, [], ◌∷◌, length, map, take, drop, refl, subst, arith, length-drop, length-append, length-take}
use Rattle.std.specs.Prelude.{All, pos}
use Rattle.std.specs.List.{AllByRecursion}
use Rattle.std.proofs.lemmas.List.{length-map}
use Rattle.std.proofs.lemmas.List.Elements.{All-append, All-drop, All-map, All-take, All-weaker}
use Rattle.p414_syntax.specs.declared.syntax.Decl.{Decl}
use Rattle.p414_syntax.specs.declared.syntax.Rule14.{Rule14}
use Rattle.p414_syntax.specs.Arguments.{Invocation}
use Rattle.p414_syntax.specs.Fields.{size_in}
use Rattle.p414_syntax.specs.Targets.{is_metadata_in}
use Rattle.p414_syntax.specs.Totals.{elements_of}
use Rattle.p414_sem.specs.Slots.{Element, Target}
use Rattle.p414_sem.specs.State.{Header, State, elements_at, header_of, is_valid_at, is_live, with_elements, cleared}
use Rattle.p414_sem.specs.Wholes.{wrapped, kept}
use Rattle.p414_sem.specs.Fitting.{FitsHeader, IsState}
use Rattle.p414_sem.specs.Expanded.{Expanded, primitives_at}
use Rattle.p414_sem.specs.Operations.{Primitive, Term, write, add_header, remove_header, copy_header, push, pop, count_cell, write_cell, execute_meter, ask, nothing, primitive_of}
use Rattle.p414_sem.specs.Effects.{Moment, Effect, put_field, put_header, put_stack, put_cell, count_packet, take_colour, put_request, term_number, field_effect, pushed, popped, effects, coloured, fallen, all_fallen, acted, acted_by}
use Rattle.lower_laws_states.specs.Fits.{OfInstance, IsElementOf, AreElements, FitsTarget, FitsEffect, FitsPrimitive}
use Rattle.lower_laws_states.specs.Programs.{AllFit}
use Rattle.lower_laws_states.proofs.Folds.{all_fallen_keeps, acted_keeps}
use Rattle.lower_laws_states.proofs.Instances.{instance_fits, element_fits, kept_instance, kept_header, cleared_fits}
use Rattle.lower_laws_states.proofs.Writing.{wrapped_below, kept_below, written_fits, with_request_fits}

-- one effect

stack_fits : (ds : List Decl) (s : State) (i : ℕ) (elements : List Header) → IsState ds s → OfInstance ds i (λ d. AreElements ds d elements) → IsState ds (with_elements s i elements)
stack_fits ds s i elements state fit = kept_instance ds s state i _ (λ d is old. record {
  each = (fit d is).each;
  count = (fit d is).count;
  place = old.place;
})

coloured_fits : (ds : List Decl) (s : State) (t : Target) (live : Bool) (taken : ℕ) → IsState ds s → FitsTarget ds t → IsState ds (coloured t live taken s)
coloured_fits ds s t true taken state fit = written_fits ds s state t.slot (wrapped t.width (pos taken)) (fit _ (wrapped_below t.width (pos taken)))
coloured_fits ds s t false taken state fit = state

pub fallen_fits : (ds : List Decl) (m : Moment) (e : Effect) → IsState ds m.state → FitsEffect ds e → IsState ds (fallen m e).state
fallen_fits ds m (put_field slot n) state fit = written_fits ds m.state state slot n fit
fallen_fits ds m (put_header at h) state fit = kept_header ds m.state state at.instance at.element h (λ d is inside old. fit d is inside)
fallen_fits ds m (put_stack i elements) state fit = stack_fits ds m.state i elements state fit
fallen_fits ds m (put_cell object index n) state fit = state
fallen_fits ds m (count_packet object index) state fit = state
fallen_fits ds m (take_colour object index target live) state fit = coloured_fits ds m.state target live _ state fit
fallen_fits ds m (put_request kind request) state fit = with_request_fits ds m.state state kind (Some request) fit

-- the effects of a primitive

module _ (ds : List Decl) (d : Decl) (elements : List Header) (old : AreElements ds d elements) where
  cleared_all : (valid : Bool) (count : ℕ) → (is_metadata_in d ≡ true → valid ≡ true) → All (IsElementOf ds d) (map (cleared valid) (take count elements))
  cleared_all valid count stays =
      All-map (IsElementOf ds d) (cleared valid) (take count elements)
      (All-weaker (IsElementOf ds d) (λ h. IsElementOf ds d (cleared valid h)) (λ h is. cleared_fits ds d h is valid stays) (take count elements) (All-take (IsElementOf ds d) count elements old.each))

  pushed_fit : (count : ℕ) → AreElements ds d (pushed count elements)
  pushed_fit count = record {
    each = All-take (IsElementOf ds d) (length elements) _ (All-append (IsElementOf ds d) _ elements (cleared_all true count (λ e. refl)) old.each);
    count = simp (length-take, length-append) (omega (arith, old.count));
  }

  popped_fit : (count : ℕ) → is_metadata_in d ≡ false → AreElements ds d (popped count elements)
  popped_fit count none = record {
    each = All-append (IsElementOf ds d) (drop count elements) _ (All-drop (IsElementOf ds d) count elements old.each) (cleared_all false count (λ e. absurd (cc (none, e))));
    count = simp (length-append, length-drop, length-map, length-take) (omega (arith, old.count));
  }

elements_fit : (ds : List Decl) (s : State) (i : ℕ) → IsState ds s → OfInstance ds i (λ d. AreElements ds d (elements_at s i))
elements_fit ds s i state d is = let there = instance_fits ds s state i d is in record { each = there.each; count = there.count }

module _ (ds : List Decl) (arguments : List ℕ) (r : Moment) (state : IsState ds r.state) where
  field_effect_fits : (sums : Bool) (target : Target) (term : Term) → FitsTarget ds target → AllByRecursion (FitsEffect ds) (field_effect ds arguments r sums target term)
  field_effect_fits sums target term fit = by (is_live r.state target.slot) where
    by : (b : Bool) → AllByRecursion (FitsEffect ds) (cond b (put_field target.slot (kept (sums && target.saturating) target.width (term_number ds arguments r target.slot term)) ∷ []) [])
    by true = (fit _ (kept_below (sums && target.saturating) target.width (term_number ds arguments r target.slot term)), tt)
    by false = tt

  added_fits : (at : Element) → AllByRecursion (FitsEffect ds) (effects ds arguments r (add_header at))
  added_fits at = by (is_valid_at r.state at) where
    by : (b : Bool) → AllByRecursion (FitsEffect ds) (cond b [] (put_header at (cleared true (header_of r.state at)) ∷ []))
    by true = tt
    by false = (λ d is inside. cleared_fits ds d (header_of r.state at) (element_fits ds r.state state at.instance at.element d is inside) true (λ e. refl), tt)

  pub effects_fit : (p : Primitive) → FitsPrimitive ds p → AllByRecursion (FitsEffect ds) (effects ds arguments r p)
  effects_fit (write sums target term) fit = field_effect_fits sums target term fit
  effects_fit (add_header at) fit = added_fits at
  effects_fit (remove_header at) fit = (λ d is inside. cleared_fits ds d (header_of r.state at) (element_fits ds r.state state at.instance at.element d is inside) false (λ e. absurd (cc (fit d is, e))), tt)
  effects_fit (copy_header at from) fit = (copied, tt) where
    copied : OfInstance ds at.instance (λ d. at.element < elements_of (size_in d) → IsElementOf ds d (header_of r.state from))
    copied d is inside =
        let like = fit.1 d is in
        let one = element_fits ds r.state state from.instance from.element like.other like.numbered_so like.element in
        record {
          fits = subst (λ widths. FitsHeader widths (header_of r.state from)) like.widths one.fits;
          metadata = λ e. absurd (cc (fit.0 d is, e));
        }
  effects_fit (push i count) fit = (λ d is. pushed_fit ds d (elements_at r.state i) (elements_fit ds r.state i state d is) count, tt)
  effects_fit (pop i count) fit = (λ d is. popped_fit ds d (elements_at r.state i) (elements_fit ds r.state i state d is) count (fit d is), tt)
  effects_fit (count_cell object index) fit = (tt, tt)
  effects_fit (write_cell object index value) fit = (tt, tt)
  effects_fit (execute_meter object index target) fit = (fit, tt)
  effects_fit (ask kind session list) fit = (record { session = wrapped_below 32 _; list = fit }, tt)
  effects_fit nothing fit = tt

-- a list of primitives, under both rules

module _ (ds : List Decl) (x : Expanded) (arguments : List ℕ) where
  pub one_fits : (r m : Moment) (i : Invocation) → IsState ds r.state → IsState ds m.state → FitsPrimitive ds (primitive_of ds x i) → IsState ds (all_fallen m (effects ds arguments r (primitive_of ds x i))).state
  one_fits r m i read state fits = all_fallen_keeps (IsState ds) (FitsEffect ds) (fallen_fits ds) _ m state (effects_fit ds arguments r read (primitive_of ds x i) fits)

  pub acted_fits : (rule : Rule14) (calls : List Invocation) (m : Moment) → IsState ds m.state → AllFit ds x calls → IsState ds (acted ds x rule arguments calls m).state
  acted_fits = acted_keeps ds x arguments (IsState ds) (λ i. FitsPrimitive ds (primitive_of ds x i)) one_fits

  pub acted_by_fits : (rule : Rule14) (action : ℕ) (m : Moment) → IsState ds m.state → AllFit ds x (primitives_at x action) → IsState ds (acted_by ds x rule action arguments m).state
  acted_by_fits rule action m state fits = acted_fits rule (primitives_at x action) m state fits
