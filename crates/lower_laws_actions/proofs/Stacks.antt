-- Stacks that are pushed and popped, under both rules.
use Rattle.std.proofs.Common.{Some, ◌≡◌, ℕ, zero, suc, ◌+◌, ◌-◌, ◌<◌, ◌≤◌, ◌^◌, Bool, true, false, cond, List, [], ◌∷◌, ◌++◌, length, map, take, drop, get_or, set, refl, sym, ap, ap₂, ◌∙◌, subst, arith, append_assoc}
use Rattle.std.specs.Prelude.{codes, is_some, Option, min, All, replicate}
use Rattle.std.proofs.lemmas.List.{length-drop, set-get_or, get_or_default, length-take, length-map, length-append, take-map, drop-map, map-append, length-replicate, get_or-set_same}
use Rattle.std.proofs.lemmas.List.Elements.{All-append, All-take, All-map, All-drop}
use Rattle.std.proofs.Math.Seq.{take-append-add}
use Rattle.p414_syntax.specs.declared.syntax.Decl.{Decl}
use Rattle.p414_sem.specs.Slots.{Element}
use Rattle.p414_sem.specs.State.{Header as Header14, Instance, State, no_header, no_instance, instance_at, header_at, elements_at, place_of, with_instance, with_elements, cleared as cleared14}
use Rattle.p414_sem.specs.Operations.{push, pop}
use Rattle.p414_sem.specs.Effects.{Moment as Moment14, pushed, popped, effects, all_fallen}
use Rattle.p416_syntax.specs.Tree.{Exp16, Stmt16, literal, assign}
use Rattle.p416_syntax.specs.Names.{Name}
use Rattle.p416_syntax.specs.Kinds.{Kind, bits, stack, nothing}
use Rattle.p416_syntax.specs.Scopes.{Scope}
use Rattle.p416_syntax.specs.Calls.{Signature, literal_of, method, stack_method}
use Rattle.p416_syntax.specs.Expressions.{kind_of}
use Rattle.p416_syntax.specs.Uses.{wanted_by}
use Rattle.v1_core.specs.Values.{Value, Header, a_stack, number_in, place_in, elements_in, cleared}
use Rattle.v1_core.specs.Frames.{Moment, ticked, going_on, put_at, read}
use Rattle.v1_core.specs.Expressions.{Referred, valued}
use Rattle.v1_core.specs.HeaderCalls.{pushed as pushed16, popped as popped16, stack_call}
use Rattle.v1_core.specs.Calls.{Given, arguments, number_at, method_call}
use Rattle.v1_core.specs.Statements.{no_label, run}
use Rattle.agreement_of_meanings.specs.Shown.{NamedField, Shown, as_stack, is_metadata, owner_of, shown_header, shown_value, element, instance_reference, IsShown}
use Rattle.agreement_of_meanings.proofs.Written.{instance_part}
use Rattle.lower_laws_base.specs.Context.{Local, HasRoot, Lowering, words_of, shown_in, instance_kind, At, now, entry, at_place, Sees, Aside, Stands, AreGiven}
use Rattle.lower_laws_base.specs.Mirror.{sized, instance_exp, part_exp, method_stmt}
use Rattle.lower_laws_base.proofs.Means.{Means, means_instance, seen_read}
use Rattle.lower_laws_base.proofs.Gives.{gives_literal}
use Rattle.lower_laws_base.proofs.Shapes.{FitsThere, zeros_fit, stack_fits, header_fits}
use Rattle.lower_laws_base.proofs.States.{stands_at, stands_ticked}
use Rattle.lower_laws_base.proofs.Writes.{assigns}
use Rattle.lower_laws_base.proofs.Headers.{cleared_shown, leaves_instance, with_state, stack_stands}
use Rattle.lower_laws_base.proofs.Running.{Done}
use Rattle.lower_laws_actions.specs.Mirror.{stack_stmt, elements_set, push_stmts, pop_stmts, one_argument}
use Rattle.lower_laws_actions.specs.Fits.{IsStack, PrimitiveFits}
use Rattle.lower_laws_actions.proofs.Lists.{Free, Runs, runs_none, runs_one, runs_more}
use Rattle.lower_laws_actions.proofs.Calls.{number_given}
use Rattle.lower_laws_actions.proofs.Headers.{set_twice, valid_done}
use Rattle.lower_laws_actions.proofs.Statements.{Ready, looks}

-- lists of headers

abbrev low : ℕ → List Header14 → List Header14
low n els = take (length els) (map (cleared14 false) (take n els) ++ els)

cleared_all : (fields : List NamedField) (valid : Bool) (els : List Header14) → map (cleared valid) (map (shown_header fields) els) ≡ map (shown_header fields) (map (cleared14 valid) els)
cleared_all fields valid [] = refl
cleared_all fields valid (h ∷ els) = ap₂ (λ (g : Header) (gs : List Header). g ∷ gs) (cleared_shown fields valid h) (cleared_all fields valid els)

pushed_shown : (fields : List NamedField) (n : ℕ) (els : List Header14) → pushed16 n (map (shown_header fields) els) ≡ map (shown_header fields) (low n els)
pushed_shown fields n els =
    ap₂ (λ z (gs : List Header). take z (map (cleared false) gs ++ map (shown_header fields) els)) (length-map els (shown_header fields)) (take-map (shown_header fields) n els)
    ∙ ap (λ (gs : List Header). take (length els) (gs ++ map (shown_header fields) els)) (cleared_all fields false (take n els))
    ∙ ap (take (length els)) (sym (map-append (shown_header fields) (map (cleared14 false) (take n els)) els))
    ∙ take-map (shown_header fields) (length els) (map (cleared14 false) (take n els) ++ els)

popped_shown : (fields : List NamedField) (n : ℕ) (els : List Header14) → popped16 n (map (shown_header fields) els) ≡ map (shown_header fields) (popped n els)
popped_shown fields n els =
    ap₂ (λ (gs hs : List Header). gs ++ map (cleared false) hs) (drop-map (shown_header fields) n els) (take-map (shown_header fields) n els)
    ∙ ap (λ (gs : List Header). map (shown_header fields) (drop n els) ++ gs) (cleared_all fields false (take n els))
    ∙ sym (map-append (shown_header fields) (drop n els) (map (cleared14 false) (take n els)))

-- a header that becomes valid
abbrev made : Header14 → Header14
made h = cond h.valid h (cleared14 true h)

made_all : (els : List Header14) → map made (map (cleared14 false) els) ≡ map (cleared14 true) els
made_all [] = refl
made_all (h ∷ els) =
    ap₂ (λ (z : ℕ) (gs : List Header14). let g : Header14 = record { valid = true; numbers = replicate z 0 } in g ∷ gs) (length-replicate (length h.numbers) 0) (made_all els)

-- elements from a place on become valid
abbrev all_made : ℕ → ℕ → List Header14 → List Header14
all_made e zero els = els
all_made e (suc n) els = all_made (suc e) n (set els e (made (get_or els e no_header)))

set_seam : (before : List Header14) (q : Header14) (rest : List Header14) (h : Header14) → set (before ++ q ∷ rest) (length before) h ≡ before ++ h ∷ rest
set_seam [] q rest h = refl
set_seam (x ∷ before) q rest h = ap (λ z. x ∷ z) (set_seam before q rest h)

get_seam : (before : List Header14) (q : Header14) (rest : List Header14) → get_or (before ++ q ∷ rest) (length before) no_header ≡ q
get_seam [] q rest = refl
get_seam (x ∷ before) q rest = get_seam before q rest

made_seam : (before mid rest : List Header14) (e n : ℕ) → e ≡ length before → n ≡ length mid → all_made e n (before ++ (mid ++ rest)) ≡ before ++ (map made mid ++ rest)
made_seam before [] rest e n at count = ap (λ z. all_made e z (before ++ rest)) count
made_seam before (q ∷ mid) rest e zero at count = absurd (omega (arith, count))
made_seam before (q ∷ mid) rest e (suc n) at count =
    let step : set (before ++ (q ∷ mid ++ rest)) e (made (get_or (before ++ (q ∷ mid ++ rest)) e no_header)) ≡ (before ++ made q ∷ []) ++ (mid ++ rest) =
    ap (λ z. set (before ++ (q ∷ mid ++ rest)) z (made (get_or (before ++ (q ∷ mid ++ rest)) z no_header))) at
    ∙ ap (λ z. set (before ++ (q ∷ mid ++ rest)) (length before) (made z)) (get_seam before q (mid ++ rest))
    ∙ set_seam before q (mid ++ rest) (made q) ∙ sym (append_assoc before (made q ∷ []) (mid ++ rest)) in
    ap (all_made (suc e) n) step
    ∙ made_seam (before ++ made q ∷ []) mid rest (suc e) n (omega (arith, at, length-append before (made q ∷ []))) (omega (arith, count))
    ∙ append_assoc before (made q ∷ []) (map made mid ++ rest)

pushed_made : (n : ℕ) (els : List Header14) → all_made 0 (min n (length els)) (low n els) ≡ pushed n els
pushed_made n els =
    let moved = map (cleared14 false) (take n els) in
    let count : length moved ≡ min n (length els) = length-map (take n els) (cleared14 false) ∙ length-take n els in
    let whole : length els ≡ length moved + (length els - min n (length els)) = omega (arith, count) in
    let count_made : length (map (cleared14 true) (take n els)) ≡ min n (length els) = length-map (take n els) (cleared14 true) ∙ length-take n els in
    let whole_made : length els ≡ length (map (cleared14 true) (take n els)) + (length els - min n (length els)) = omega (arith, count_made) in
    let left = take (length els - min n (length els)) els in
    ap (all_made 0 (min n (length els))) (ap (λ z. take z (moved ++ els)) whole ∙ take-append-add moved els (length els - min n (length els)))
    ∙ made_seam [] moved left 0 (min n (length els)) refl (sym count)
    ∙ ap (λ (gs : List Header14). gs ++ left) (made_all (take n els))
    ∙ sym (ap (λ z. take z (map (cleared14 true) (take n els) ++ els)) whole_made ∙ take-append-add (map (cleared14 true) (take n els)) els (length els - min n (length els)))

-- headers that fit there
abbrev AllFitThere : Shown → List Header14 → Type 0
AllFitThere x els = All (FitsThere x) els

zeros_all : (x : Shown) (n : ℕ) (els : List Header14) → AllFitThere x els → AllFitThere x (map (cleared14 false) (take n els))
zeros_all x n els all =
    All-map (FitsThere x) (cleared14 false) (take n els) (λ k d lt. zeros_fit x false (get_or (take n els) k d) (All-take (FitsThere x) n els all k d lt).count)

low_fits : (x : Shown) (n : ℕ) (els : List Header14) → AllFitThere x els → AllFitThere x (low n els)
low_fits x n els all =
    All-take (FitsThere x) (length els) (map (cleared14 false) (take n els) ++ els)
    (All-append (FitsThere x) (map (cleared14 false) (take n els)) els (zeros_all x n els all) all)

popped_fits : (x : Shown) (n : ℕ) (els : List Header14) → AllFitThere x els → AllFitThere x (popped n els)
popped_fits x n els all =
    All-append (FitsThere x) (drop n els) (map (cleared14 false) (take n els)) (All-drop (FitsThere x) n els all) (zeros_all x n els all)

low_length : (n : ℕ) (els : List Header14) → length (low n els) ≡ length els
low_length n els =
    let few = length-append (map (cleared14 false) (take n els)) els in
    length-take (length els) (map (cleared14 false) (take n els) ++ els) ∙ omega (arith, few)

popped_length : (n : ℕ) (els : List Header14) → length (popped n els) ≡ length els
popped_length n els =
    length-append (drop n els) (map (cleared14 false) (take n els))
    ∙ ap₂ (λ a b. a + b) (length-drop n els) (length-map (take n els) (cleared14 false) ∙ length-take n els) ∙ omega arith

-- states

elements_now : (s : State) (i : ℕ) (els : List Header14) → i < length s.instances → elements_at (with_elements s i els) i ≡ els
elements_now s i els lt = ap (λ (x : Instance). x.elements) (get_or-set_same s.instances i (record { elements = els; place = place_of s i }) no_instance lt)

elements_twice : (s : State) (i : ℕ) (a b : List Header14) → i < length s.instances → with_elements (with_elements s i a) i b ≡ with_elements s i b
elements_twice s i a b lt =
    ap (λ (x : Instance). with_instance (with_elements s i a) i (record { elements = b; place = x.place })) (get_or-set_same s.instances i (record { elements = a; place = place_of s i }) no_instance lt)
    ∙ ap (λ (l : List Instance). record s { instances = l }) (set_twice s.instances i _ _)

same_elements : (s : State) (i : ℕ) → with_elements s i (elements_at s i) ≡ s
same_elements s i = ap (λ (l : List Instance). record s { instances = l }) (set-get_or s.instances i no_instance)

-- calls

module _ (c : Lowering) (s : Scope) (ls : List Local) (sees : Sees c s ls) (vs : List Value) (arguments14 : List ℕ) (given : AreGiven c.parameters ls vs arguments14) (k : Aside) (m : Moment14) (n : Moment) (stands : Stands c.layout ls vs k m n) (i : ℕ) (is : IsStack c i) where
  abbrev x : Shown
  x = as_stack is.called is.fields

  abbrev e : Exp16
  e = instance_exp (words_of c) now (shown_in c i)

  abbrev els : List Header14
  els = elements_at m.state i

  root_there : HasRoot c.layout (owner_of (shown_in c i))
  root_there = subst (λ z. HasRoot c.layout (owner_of z)) (sym is.shown) is.root

  inside : i < length m.state.instances
  inside = subst (λ z. i < z) (sym stands.shaped.count) is.within

  pub means_stack : (q : Moment) → q.frame.inner ≡ n.frame.inner → Means c.world s e (stack (c.type_of i) (c.layout.size_of i)) (instance_reference x) q
  means_stack q same =
      subst (λ z. Means c.world s (instance_exp (words_of c) now (shown_in c i)) (instance_kind z (c.type_of i) (c.layout.size_of i)) (instance_reference z) q) is.shown
      (means_instance c s ls sees vs q (same ∙ stands.inner) now tt i is.within root_there)

  its_value : read n.frame (instance_reference x) ≡ a_stack (place_of m.state i) (map (shown_header is.fields) els)
  its_value = instance_part n.frame x (instance_at m.state i) (subst (λ z. IsShown n.frame z (instance_at m.state i)) is.shown (stands.both.packet.agrees.instances.each i is.within))

  all_there : AllFitThere x els
  all_there j d lt =
      let b : j < c.layout.size_of i = omega (arith, stands.shaped.sizes i is.within, lt) in
      subst (λ z. FitsThere x z) (get_or_default els j no_header d lt)
      (subst (λ z. FitsThere z (element (instance_at m.state i) j)) is.shown (header_fits c.layout m.state stands.shaped i j is.within b))

  stack_called : (word : Name) (count : ℕ) → count < 2 ^ 32 → stack_method word ≡ Some (method true (literal_of (bits 32) ∷ []) nothing) → run c.world s no_label (stack_stmt (words_of c) i word count) n ≡ stack_call word (instance_reference x) count (ticked n)
  stack_called word count few known =
      let means = means_stack (ticked n) refl in
      let e2 = one_argument (literal (sized 32 count)) in
      ap (λ b. cond b n (method_call c.world s (kind_of s e) e word e2 (ticked n))) (ap is_some stands.both.packet.runs)
      ∙ ap (λ (z : Kind). method_call c.world s z e word e2 (ticked n)) means.kind
      ∙ ap (λ (r : Referred). let y = arguments c.world s (wanted_by (stack_method word)) e2 r.moment in going_on (stack_call word r.reference (number_at y.given 0)) y.moment) means.reference
      ∙ ap (λ (g : Option Signature). let y = arguments c.world s (wanted_by g) e2 (ticked n) in going_on (stack_call word (instance_reference x) (number_at y.given 0)) y.moment) known
      ∙ ap (λ (u : Given × Moment). going_on (stack_call word (instance_reference x) (number_in u.0.value)) u.1)
      (number_given c.world s (literal_of (bits 32)) (literal (sized 32 count)) 32 count (ticked n) refl (gives_literal c.world s (ticked n) 32 count few))
      ∙ ap (λ b. cond b (ticked n) (stack_call word (instance_reference x) count (ticked n))) (ap is_some stands.both.packet.runs)

  -- other elements of the stack
  elements_done : (new : List Header14) → length new ≡ length els → AllFitThere x new → (y : Stmt16) → run c.world s no_label y n ≡ put_at (instance_reference x) (a_stack (place_of m.state i) (map (shown_header is.fields) new)) (ticked n) → Done c s ls vs k y (with_state m (with_elements m.state i new)) n
  elements_done new count all y done =
      let inst : Instance = record { elements = new; place = place_of m.state i } in
      record {
        stands = stands_at c.layout ls vs k _ _ _ _ refl done
            (stack_stands c s ls sees vs k m (ticked n) (stands_ticked c.layout ls vs k m n stands) i is.called is.fields is.within is.shown inst
            (stack_fits is.called is.fields inst (c.layout.size_of i) (count ∙ stands.shaped.sizes i is.within) (stands.shaped.places i is.within)
            (λ f lt. all f no_header (omega (arith, count, stands.shaped.sizes i is.within, lt)))));
        variables = ap (λ (z : Moment). z.frame.variables) done ∙ (leaves_instance x (a_stack (place_of m.state i) (map (shown_header is.fields) new)) n.frame).variables;
      }

  pub front_pushed : (count : ℕ) → count < 2 ^ 32 → Done c s ls vs k (stack_stmt (words_of c) i (codes "push_front") count) (with_state m (with_elements m.state i (low count els))) n
  front_pushed count few =
      elements_done (low count els) (low_length count els) (low_fits x count els all_there) (stack_stmt (words_of c) i (codes "push_front") count)
      (stack_called (codes "push_front") count few refl
      ∙ ap (λ (v : Value). put_at (instance_reference x) (a_stack (place_in v) (pushed16 count (elements_in v))) (ticked n)) its_value
      ∙ ap (λ (hs : List Header). put_at (instance_reference x) (a_stack (place_of m.state i) hs) (ticked n)) (pushed_shown is.fields count els))

  pub front_popped : (count : ℕ) → count < 2 ^ 32 → Done c s ls vs k (stack_stmt (words_of c) i (codes "pop_front") count) (with_state m (with_elements m.state i (popped count els))) n
  front_popped count few =
      elements_done (popped count els) (popped_length count els) (popped_fits x count els all_there) (stack_stmt (words_of c) i (codes "pop_front") count)
      (stack_called (codes "pop_front") count few refl
      ∙ ap (λ (v : Value). put_at (instance_reference x) (a_stack (place_in v) (popped16 count (elements_in v))) (ticked n)) its_value
      ∙ ap (λ (hs : List Header). put_at (instance_reference x) (a_stack (place_of m.state i) hs) (ticked n)) (popped_shown is.fields count els))

-- elements become valid one by one
made_runs : (c : Lowering) (s : Scope) (ls : List Local) → Sees c s ls → (vs : List Value) (arguments14 : List ℕ) → AreGiven c.parameters ls vs arguments14 → (k : Aside) (b d : ℕ) → Free c ls b d → (i : ℕ) → IsStack c i → (count e : ℕ) → e + count ≤ c.layout.size_of i → (m : Moment14) (n : Moment) → Stands c.layout ls vs k m n → Runs c s ls vs k b d (elements_set (words_of c) i e count) (with_state m (with_elements m.state i (all_made e count (elements_at m.state i)))) n
made_runs c s ls sees vs arguments14 given k b d free i is zero e le m n stands =
    subst (λ z. Runs c s ls vs k b d [] (with_state m z) n) (sym (same_elements m.state i)) (runs_none c s ls vs k b d m n sees free stands)
made_runs c s ls sees vs arguments14 given k b d free i is (suc count) e le m n stands =
    let part : Element = record { instance = i; element = e } in
    let root = subst (λ z. HasRoot c.layout (owner_of z)) (sym is.shown) is.root in
    let plainly = ap is_metadata is.shown in
    let inside = subst (λ z. i < z) (sym stands.shaped.count) is.within in
    let one = valid_done c s ls sees vs arguments14 given k m n stands part ((is.within, omega (arith, le), root), plainly) in
    let y = method_stmt (part_exp (words_of c) now part) (codes "setValid") in
    let next = set (elements_at m.state i) e (made (header_at m.state i e)) in
    let m1 = with_state m (with_elements m.state i next) in
    let n1 = run c.world s no_label y n in
    let first = runs_one c s ls vs k b d y m1 n refl sees free one in
    let more = made_runs c s ls sees vs arguments14 given k b d free i is count (suc e) (omega (arith, le)) m1 n1 one.stands in
    let ends : with_elements m1.state i (all_made (suc e) count (elements_at m1.state i)) ≡ with_elements m.state i (all_made (suc e) count next) =
    ap (λ z. with_elements m1.state i (all_made (suc e) count z)) (elements_now m.state i next inside) ∙ elements_twice m.state i next (all_made (suc e) count next) inside in
    subst (λ z. Runs c s ls vs k b d (elements_set (words_of c) i e (suc count)) (with_state m z) n) ends
    (runs_more c s ls vs k b d b d (y ∷ []) (elements_set (words_of c) i (suc e) count) m1 _ n first more)

module _ (c : Lowering) (s : Scope) (ls : List Local) (sees : Sees c s ls) (vs : List Value) (arguments14 : List ℕ) (given : AreGiven c.parameters ls vs arguments14) (k : Aside) (b d : ℕ) (free : Free c ls b d) (i : ℕ) (is : IsStack c i) (count : ℕ) (few : count < 2 ^ 32) (m : Moment14) (n : Moment) (stands : Stands c.layout ls vs k m n) where
  -- push and pop of the stack as it stands
  push_runs : Runs c s ls vs k b d (stack_stmt (words_of c) i (codes "push_front") count ∷ elements_set (words_of c) i 0 (min count (c.layout.size_of i))) (with_state m (with_elements m.state i (pushed count (elements_at m.state i)))) n
  push_runs =
      let els = elements_at m.state i in
      let size = stands.shaped.sizes i is.within in
      let inside = subst (λ z. i < z) (sym stands.shaped.count) is.within in
      let one = front_pushed c s ls sees vs arguments14 given k m n stands i is count few in
      let y = stack_stmt (words_of c) i (codes "push_front") count in
      let m1 = with_state m (with_elements m.state i (low count els)) in
      let n1 = run c.world s no_label y n in
      let more = made_runs c s ls sees vs arguments14 given k b d free i is (min count (c.layout.size_of i)) 0 (omega arith) m1 n1 one.stands in
      let ends : with_elements m1.state i (all_made 0 (min count (c.layout.size_of i)) (elements_at m1.state i)) ≡ with_elements m.state i (pushed count els) =
      ap (λ z. with_elements m1.state i (all_made 0 (min count (c.layout.size_of i)) z)) (elements_now m.state i (low count els) inside)
      ∙ elements_twice m.state i (low count els) (all_made 0 (min count (c.layout.size_of i)) (low count els)) inside
      ∙ ap (λ z. with_elements m.state i (all_made 0 (min count z) (low count els))) (sym size)
      ∙ ap (with_elements m.state i) (pushed_made count els) in
      subst (λ z. Runs c s ls vs k b d (y ∷ elements_set (words_of c) i 0 (min count (c.layout.size_of i))) (with_state m z) n) ends
      (runs_more c s ls vs k b d b d (y ∷ []) (elements_set (words_of c) i 0 (min count (c.layout.size_of i))) m1 _ n (runs_one c s ls vs k b d y m1 n refl sees free one) more)

  pop_runs : Runs c s ls vs k b d (stack_stmt (words_of c) i (codes "pop_front") count ∷ []) (with_state m (with_elements m.state i (popped count (elements_at m.state i)))) n
  pop_runs = runs_one c s ls vs k b d (stack_stmt (words_of c) i (codes "pop_front") count) _ n refl sees free (front_popped c s ls sees vs arguments14 given k m n stands i is count few)

-- the stack of the entry, copied whole
copied_done : (c : Lowering) (s : Scope) (ls : List Local) (vs : List Value) (arguments14 : List ℕ) (k : Aside) (r m : Moment14) (n : Moment) → Ready c s ls vs arguments14 k entry r m n → (i : ℕ) → IsStack c i → Done c s ls vs k (assign (instance_exp (words_of c) now (shown_in c i)) (instance_exp (words_of c) entry (shown_in c i))) (with_state m (with_instance m.state i (instance_at r.state i))) n
copied_done c s ls vs arguments14 k r m n ready i is =
    let stands = ready.stands in
    let x = as_stack is.called is.fields in
    let there = looks c s ls vs arguments14 k entry r m n ready [] 0 in
    let root = subst (λ z. HasRoot c.layout (owner_of z)) (sym is.shown) is.root in
    let kind = instance_kind (shown_in c i) (c.type_of i) (c.layout.size_of i) in
    let inst = instance_at r.state i in
    let old = means_instance c s ls ready.sees vs (ticked n) stands.inner entry ready.has i is.within root in
    let reads : read n.frame (at_place (words_of c) entry (instance_reference (shown_in c i))) ≡ shown_value x inst =
    ap (λ z. read n.frame (at_place (words_of c) entry (instance_reference z))) is.shown
    ∙ seen_read c entry r.state n.frame there.seen (instance_reference x) is.root
    ∙ instance_part there.seen.frame x inst (subst (λ z. IsShown there.seen.frame z inst) is.shown (there.seen.agrees.instances.each i is.within)) in
    let done = assigns c.world s (instance_exp (words_of c) now (shown_in c i)) (instance_exp (words_of c) entry (shown_in c i)) kind (instance_reference (shown_in c i)) (shown_value x inst) n stands.both.packet.runs
    (means_instance c s ls ready.sees vs (ticked n) stands.inner now tt i is.within root)
    (λ p. old.value p ∙ ap (λ v. valued v (ticked n)) reads) in
    let there_now = done ∙ ap (λ z. put_at (instance_reference z) (shown_value x inst) (ticked n)) is.shown in
    let shaped = there.seen.shaped in
    record {
      stands = stands_at c.layout ls vs k _ _ _ _ refl there_now
          (stack_stands c s ls ready.sees vs k m (ticked n) (stands_ticked c.layout ls vs k m n stands) i is.called is.fields is.within is.shown inst
          (stack_fits is.called is.fields inst (c.layout.size_of i) (shaped.sizes i is.within) (shaped.places i is.within)
          (λ f lt. subst (λ z. FitsThere z (element inst f)) is.shown (header_fits c.layout r.state shaped i f is.within lt))));
      variables = ap (λ (z : Moment). z.frame.variables) there_now ∙ (leaves_instance x (shown_value x inst) n.frame).variables;
    }

-- the elements of the entry, in the stack of the same place
placed : (c : Lowering) (r m : Moment14) (i : ℕ) (els : List Header14) → i < length m.state.instances → place_of m.state i ≡ place_of r.state i → with_elements (with_instance m.state i (instance_at r.state i)) i els ≡ with_elements m.state i els
placed c r m i els inside same =
    ap (λ (x : Instance). with_instance (with_instance m.state i (instance_at r.state i)) i (record { elements = els; place = x.place })) (get_or-set_same m.state.instances i (instance_at r.state i) no_instance inside)
    ∙ ap (λ (l : List Instance). record m.state { instances = l }) (set_twice m.state.instances i _ _)
    ∙ ap (λ z. with_instance m.state i (record { elements = els; place = z })) (sym same)

instance_there : (c : Lowering) (r m : Moment14) (i : ℕ) → i < length m.state.instances → elements_at (with_instance m.state i (instance_at r.state i)) i ≡ elements_at r.state i
instance_there c r m i inside = ap (λ (x : Instance). x.elements) (get_or-set_same m.state.instances i (instance_at r.state i) no_instance inside)

pub pushes_run : (c : Lowering) (s : Scope) (ls : List Local) (vs : List Value) (arguments14 : List ℕ) (k : Aside) (at : At) (r m : Moment14) (n : Moment) → Ready c s ls vs arguments14 k at r m n → (ds : List Decl) (b d : ℕ) → Free c ls b d → (i count : ℕ) → PrimitiveFits c ds (push i count) → Runs c s ls vs k b d (push_stmts (words_of c) at i count) (all_fallen m (effects ds arguments14 r (push i count))) n
pushes_run c s ls vs arguments14 k now r m n ready ds b d free i count fits =
    subst (λ (z : Moment14). Runs c s ls vs k b d (push_stmts (words_of c) now i count) (with_state m (with_elements m.state i (pushed count (elements_at z.state i)))) n) (sym ready.reads)
    (push_runs c s ls ready.sees vs arguments14 ready.given k b d free i fits.0 count fits.1 m n ready.stands)
pushes_run c s ls vs arguments14 k entry r m n ready ds b d free i count fits =
    let inside = subst (λ z. i < z) (sym ready.stands.shaped.count) fits.0.within in
    let one = copied_done c s ls vs arguments14 k r m n ready i fits.0 in
    let y = assign (instance_exp (words_of c) now (shown_in c i)) (instance_exp (words_of c) entry (shown_in c i)) in
    let m1 = with_state m (with_instance m.state i (instance_at r.state i)) in
    let n1 = run c.world s no_label y n in
    let more = push_runs c s ls ready.sees vs arguments14 ready.given k b d free i fits.0 count fits.1 m1 n1 one.stands in
    let ends : with_elements m1.state i (pushed count (elements_at m1.state i)) ≡ with_elements m.state i (pushed count (elements_at r.state i)) =
    ap (λ z. with_elements m1.state i (pushed count z)) (instance_there c r m i inside) ∙ placed c r m i (pushed count (elements_at r.state i)) inside (ready.reads.1 i) in
    subst (λ z. Runs c s ls vs k b d (push_stmts (words_of c) entry i count) (with_state m z) n) ends
    (runs_more c s ls vs k b d b d (y ∷ []) _ m1 _ n (runs_one c s ls vs k b d y m1 n refl ready.sees free one) more)

pub pops_run : (c : Lowering) (s : Scope) (ls : List Local) (vs : List Value) (arguments14 : List ℕ) (k : Aside) (at : At) (r m : Moment14) (n : Moment) → Ready c s ls vs arguments14 k at r m n → (ds : List Decl) (b d : ℕ) → Free c ls b d → (i count : ℕ) → PrimitiveFits c ds (pop i count) → Runs c s ls vs k b d (pop_stmts (words_of c) at i count) (all_fallen m (effects ds arguments14 r (pop i count))) n
pops_run c s ls vs arguments14 k now r m n ready ds b d free i count fits =
    subst (λ (z : Moment14). Runs c s ls vs k b d (pop_stmts (words_of c) now i count) (with_state m (with_elements m.state i (popped count (elements_at z.state i)))) n) (sym ready.reads)
    (pop_runs c s ls ready.sees vs arguments14 ready.given k b d free i fits.0 count fits.1 m n ready.stands)
pops_run c s ls vs arguments14 k entry r m n ready ds b d free i count fits =
    let inside = subst (λ z. i < z) (sym ready.stands.shaped.count) fits.0.within in
    let one = copied_done c s ls vs arguments14 k r m n ready i fits.0 in
    let y = assign (instance_exp (words_of c) now (shown_in c i)) (instance_exp (words_of c) entry (shown_in c i)) in
    let m1 = with_state m (with_instance m.state i (instance_at r.state i)) in
    let n1 = run c.world s no_label y n in
    let more = pop_runs c s ls ready.sees vs arguments14 ready.given k b d free i fits.0 count fits.1 m1 n1 one.stands in
    let ends : with_elements m1.state i (popped count (elements_at m1.state i)) ≡ with_elements m.state i (popped count (elements_at r.state i)) =
    ap (λ z. with_elements m1.state i (popped count z)) (instance_there c r m i inside) ∙ placed c r m i (popped count (elements_at r.state i)) inside (ready.reads.1 i) in
    subst (λ z. Runs c s ls vs k b d (pop_stmts (words_of c) entry i count) (with_state m z) n) ends
    (runs_more c s ls vs k b d b d (y ∷ []) _ m1 _ n (runs_one c s ls vs k b d y m1 n refl ready.sees free one) more)
