-- The numbers that are set from a place on are those of the parameters that come to stand there.
use Rattle.std.proofs.Common.{◌≡◌, ℕ, ◌+◌, ◌<◌, ◌≤◌, ◌⊎◌, Bool, true, false, List, [], ◌∷◌, length, map, slice_get, slice_index, inl, inr, Option, Some, None, sym, ap, ◌∙◌, subst, arith}
use Rattle.std.specs.Prelude.{filter_map}
use Rattle.std.specs.List.{cons_option}
use Rattle.std.specs.Option.{option_map_or}
use Rattle.std.proofs.lemmas.Bool.{ltb-false}
use Rattle.std.proofs.lemmas.List.{length-map}
use Rattle.digraph.specs.Graphs.{Among, IsEdge}
use Rattle.p414_syntax.specs.declared.actions.Action.{Action}
use Rattle.p414_syntax.specs.declared.syntax.Decl.{Decl}
use Rattle.p414_syntax.specs.declared.place.ArgumentPlace.{ArgumentPlace}
use Rattle.p414_syntax.specs.Primitives.{primitive_places}
use Rattle.p414_syntax.specs.Twice.{declares_twice}
use Rattle.p414_syntax.specs.Arguments.{Argument, parameter_argument, Invocation, invocations_of, all_invocations, actions, action_number, placed, placed_argument, place_of_parameter, parameter_places}
use Rattle.p414_syntax.specs.ActionExpansion.{callee_number, called_in}
use Rattle.p414_syntax.specs.Calls.{takes_others, is_wrong_call, has_wrong_call}
use Rattle.p414_list_check.proofs.Expanding.{at_row}
use Rattle.p414_list_check.proofs.Sized.{there_within}
use Rattle.p414_action_check.specs.internal.Counted.{action_graph}
use Rattle.p414_action_check.proofs.Given.{or_first, wanted_there}
use Rattle.p414_expanded_check.specs.declared.flow.Pass.{Pass}
use Rattle.p414_expanded_check.specs.internal.Passing.{In, Ends, Stands, Passed}
use Rattle.p414_expanded_check.specs.internal.Flow.{Ordered, place_number, starts, count, passes_of, all_passes, is_set, with_passes, flags_at}
use Rattle.p414_expanded_check.proofs.Members.{none_of, in_flat, in_got}
use Rattle.p414_expanded_check.proofs.Places.{same_place, place_below, begins_above, begins_within, end_above, one_parameter, parameter_within}
use Rattle.p414_expanded_check.proofs.Relaxing.{only, first_length, first_set, passes_length, grows, hits, along, passes_append}
use Rattle.p414_expanded_check.proofs.Passes as passes
use Rattle.p414_expanded_check.proofs.Passes.{pass, of_flat, is_in, IsOn, IsAt, IsCalled, IsStanding, called_there, standing_there, of_action}

-- an argument at a place is one of the arguments
of_placed : (p : ArgumentPlace) (x : Argument) (ps : List ArgumentPlace) (xs : List Argument) → In (placed_argument p x) (placed ps xs) → In x xs
of_placed p x [] xs h = absurd h
of_placed p x (q ∷ ps) [] h = absurd h
of_placed p x (q ∷ ps) (y ∷ xs) (inl e) = inl (ap (λ w. w.argument) e)
of_placed p x (q ∷ ps) (y ∷ xs) (inr h) = inr (of_placed p x ps xs h)

-- an action leads to those that it calls

behind_one : (o : Option ℕ) (ns : List ℕ) (k : ℕ) → Among k ns → Among k (cons_option o ns)
behind_one None ns k h = h
behind_one (Some n) ns k h = inr h

among_called : (ds : List Decl) (is : List Invocation) (i : Invocation) (k : ℕ) → In i is → action_number ds i.callee ≡ Some k → Among k (filter_map (callee_number ds) is)
among_called ds [] i k h e = absurd h
among_called ds (j ∷ is) i k (inl s) e = here (callee_number ds j) (ap (callee_number ds) (sym s) ∙ e) where
  here : (o : Option ℕ) → o ≡ Some k → Among k (cons_option o (filter_map (callee_number ds) is))
  here None t = absurd (cc t)
  here (Some n) t = inl (sym (cc t))
among_called ds (j ∷ is) i k (inr h) e = behind_one (callee_number ds j) (filter_map (callee_number ds) is) k (among_called ds is i k h e)

edge_there : (ds : List Decl) (n : ℕ) (a : Action) (i : Invocation) (k : ℕ) → slice_get (actions ds) n ≡ Some a → In i (invocations_of a) → action_number ds i.callee ≡ Some k → IsEdge (action_graph ds) n k
edge_there ds n a i k there within calls = subst (Among k) (sym (at_row (called_in ds) (actions ds) n a there)) (among_called ds (invocations_of a) i k within calls)

-- a call of an action is given no more than it has parameters

module _ (ds : List Decl) (once : declares_twice ds ≡ false) (right : has_wrong_call ds ≡ false) where
  pub few_given : (n : ℕ) (a : Action) (i : Invocation) (k : ℕ) → slice_get (actions ds) n ≡ Some a → In i (invocations_of a) → action_number ds i.callee ≡ Some k → (c : Action) × (slice_get (actions ds) k ≡ Some c) × (length i.arguments ≤ length c.parameters)
  few_given n a i k there within calls =
      let c = wanted_there ds i.callee k once calls in
      let fits : is_wrong_call ds i ≡ false = none_of (is_wrong_call ds) (all_invocations ds) i right (in_flat invocations_of (actions ds) a i (in_got (actions ds) n a there) within) in
      let asked : takes_others ds i (parameter_places c.0) ≡ false = ap (λ o. option_map_or (takes_others ds i) o false) (sym c.2) ∙ or_first _ _ fits in
      let few : length i.arguments ≤ length (parameter_places c.0) = ltb-false _ _ (or_first _ _ (or_first _ _ asked)) in
      let same : length (parameter_places c.0) ≡ length c.0.parameters = length-map c.0.parameters place_of_parameter in
      (c.0, c.1, omega arith)

  module _ (p : ArgumentPlace) where
    abbrev number : ℕ → ℕ → ℕ
    number n m = slice_index (starts ds) n + m

    abbrev bodies : List (List Invocation)
    bodies = map invocations_of (actions ds)

    -- what is come to

    abbrev IsParameter : ℕ → Type 0
    IsParameter x = (n : ℕ) × (m : ℕ) × (a : Action) × (slice_get (actions ds) n ≡ Some a) × (m < length a.parameters) × (x ≡ number n m) × Ends ds p n m

    abbrev Good : ℕ → Type 0
    Good x = (x ≡ place_number p) ⊎ IsParameter x

    above : (n : ℕ) (a : Action) (m : ℕ) → slice_get (actions ds) n ≡ Some a → 11 ≤ number n m
    above n a m there = let h = begins_above 11 (actions ds) n a there in omega arith

    standing_good : (n : ℕ) (a : Action) (i : Invocation) (e : Pass) → slice_get (actions ds) n ≡ Some a → In i (invocations_of a) → IsStanding ds (slice_index (starts ds) n) i e → Good e.from → Good e.to
    standing_good n a i e there within s (inl same) =
        let q : s.at.at ≡ p = same_place s.at.at p (sym s.at.starts ∙ same) in
        let stands : In (placed_argument p (parameter_argument s.at.parameter)) (placed (primitive_places i.callee) i.arguments) = subst (λ w. In (placed_argument w (parameter_argument s.at.parameter)) (placed (primitive_places i.callee) i.arguments)) q s.at.stands in
        inr (n, s.at.parameter, a, there, parameter_within a i s.at.parameter within (of_placed p _ (primitive_places i.callee) i.arguments stands), s.at.ends, Stands n s.at.parameter a i there within s.alone stands)
    standing_good n a i e there within s (inr (k, j, c, is, below, same, ends)) =
        let low = place_below s.at.at in
        let high = above k c j is in
        let from = s.at.starts in
        absurd (omega arith)

    called_good : (n : ℕ) (a : Action) (i : Invocation) (e : Pass) (k : ℕ) → slice_get (actions ds) n ≡ Some a → In i (invocations_of a) → IsCalled ds (starts ds) (slice_index (starts ds) n) i e k → Good e.from → Good e.to
    called_good n a i e k there within s (inl same) =
        let c = few_given n a i k there within s.calls in
        let low = place_below p in
        let high = above k c.0 s.on.position c.1 in
        let from = s.on.starts in
        absurd (omega arith)
    called_good n a i e k there within s (inr (l, j, d, is, below, same, ends)) =
        let c = few_given n a i k there within s.calls in
        let h = there_within i.arguments s.on.position (parameter_argument s.on.parameter) s.on.passes in
        let r = one_parameter 11 (actions ds) l k j s.on.position d c.0 is c.1 below (omega arith) (sym same ∙ s.on.starts) in
        let ends_there : Ends ds p k s.on.position = subst (λ w. Ends ds p w s.on.position) r.0 (subst (Ends ds p l) r.1 ends) in
        inr (
          n,
          s.on.parameter,
          a,
          there,
          parameter_within a i s.on.parameter within (in_got i.arguments s.on.position (parameter_argument s.on.parameter) s.on.passes),
          s.on.ends,
          Passed n s.on.parameter k s.on.position a i there within s.calls s.on.passes ends_there,
        )

    pass_good : (order : List ℕ) (e : Pass) → In e (all_passes ds (starts ds) bodies order) → Good e.from → Good e.to
    pass_good order e h good =
        let n = of_flat (passes_of ds (starts ds) bodies) order e h in
        let r = of_action ds (starts ds) n.0 e n.2 in
        by_call n.0 r.0 r.2 r.1 r.3 (is_in ds (starts ds) (slice_index (starts ds) n.0) r.2 e r.4) where
          by_call : (n : ℕ) (a : Action) (i : Invocation) → slice_get (actions ds) n ≡ Some a → In i (invocations_of a) → ((k : ℕ) × IsCalled ds (starts ds) (slice_index (starts ds) n) i e k) ⊎ IsStanding ds (slice_index (starts ds) n) i e → Good e.to
          by_call n a i there within (inl (k, s)) = called_good n a i e k there within s good
          by_call n a i there within (inr s) = standing_good n a i e there within s good

    pub is_good : (order : List ℕ) (n : ℕ) (a : Action) (m : ℕ) → slice_get (actions ds) n ≡ Some a → m < length a.parameters → is_set (flags_at (count ds) p (all_passes ds (starts ds) bodies order)) (number n m) ≡ true → Ends ds p n m
    is_good order n a m there below set =
        by_good (along Good (all_passes ds (starts ds) bodies order) (flags_at (count ds) p []) (λ x h. inl (only (count ds) (place_number p) x h)) (pass_good order) (number n m) set) where
          by_good : Good (number n m) → Ends ds p n m
          by_good (inl same) =
              let low = place_below p in
              let high = above n a m there in
              absurd (omega arith)
          by_good (inr (l, j, d, is, within, same, ends)) =
              let r = one_parameter 11 (actions ds) l n j m d a is there within below (sym same) in
              subst (λ w. Ends ds p w m) r.0 (subst (Ends ds p l) r.1 ends)

    -- what comes to stand is come to

    hit : (flags : List Bool) (n : ℕ) (a : Action) (i : Invocation) (from m : ℕ) → length flags ≡ count ds → slice_get (actions ds) n ≡ Some a → In i (invocations_of a) → m < length a.parameters
        → In (pass from (number n m)) (passes_of ds (starts ds) bodies n) → is_set flags from ≡ true → is_set (with_passes flags (passes_of ds (starts ds) bodies n)) (number n m) ≡ true
    hit flags n a i from m size there within below h set =
        let inside : number n m < count ds = begins_within 11 (actions ds) n a m there below in
        hits (passes_of ds (starts ds) bodies n) flags (pass from (number n m)) h set (subst (λ w. number n m < w) (sym size) inside)

    now_set : (before : List ℕ) (flags : List Bool) (n m : ℕ) → length flags ≡ count ds → is_set flags (place_number p) ≡ true → ((l j : ℕ) → Among l before → Ends ds p l j → is_set flags (number l j) ≡ true)
        → ((k : ℕ) → IsEdge (action_graph ds) n k → Among k before) → Ends ds p n m → is_set (with_passes flags (passes_of ds (starts ds) bodies n)) (number n m) ≡ true
    now_set before flags n m size first known front (Stands _ _ a i there within alone stands) =
        hit flags n a i (place_number p) m size there within (parameter_within a i m within (of_placed p _ (primitive_places i.callee) i.arguments stands))
        (passes.action_there ds (starts ds) n a i _ there within (standing_there ds (starts ds) (slice_index (starts ds) n) i p m alone stands)) first
    now_set before flags n m size first known front (Passed _ _ k j a i there within calls given ends) =
        hit flags n a i (number k j) m size there within (parameter_within a i m within (in_got i.arguments j (parameter_argument m) given))
        (passes.action_there ds (starts ds) n a i _ there within (called_there ds (starts ds) (slice_index (starts ds) n) i k j m calls given)) (known k j (front k (edge_there ds n a i k there within calls)) ends)

    all_set : (before rest : List ℕ) (flags : List Bool) → length flags ≡ count ds → is_set flags (place_number p) ≡ true → ((l j : ℕ) → Among l before → Ends ds p l j → is_set flags (number l j) ≡ true)
        → Ordered (action_graph ds) before rest → (n m : ℕ) → Among n before ⊎ Among n rest → Ends ds p n m → is_set (with_passes flags (all_passes ds (starts ds) bodies rest)) (number n m) ≡ true
    all_set before [] flags size first known order n m (inl h) ends = known n m h ends
    all_set before [] flags size first known order n m (inr h) ends = absurd h
    all_set before (l ∷ rest) flags size first known order n m h ends =
        ap (λ (w : List Bool). is_set w (number n m)) (passes_append flags (passes_of ds (starts ds) bodies l) (all_passes ds (starts ds) bodies rest))
        ∙ all_set (l ∷ before) rest (with_passes flags (passes_of ds (starts ds) bodies l)) (passes_length flags (passes_of ds (starts ds) bodies l) ∙ size) (grows (passes_of ds (starts ds) bodies l) flags (place_number p) first) now order.1 n m (further h) ends where
          now : (q j : ℕ) → Among q (l ∷ before) → Ends ds p q j → is_set (with_passes flags (passes_of ds (starts ds) bodies l)) (number q j) ≡ true
          now q j (inl e) end = subst (λ w. is_set (with_passes flags (passes_of ds (starts ds) bodies l)) (number w j) ≡ true) (sym e) (now_set before flags l j size first known order.0 (subst (λ w. Ends ds p w j) e end))
          now q j (inr k) end = grows (passes_of ds (starts ds) bodies l) flags (number q j) (known q j k end)

          further : Among n before ⊎ Among n (l ∷ rest) → Among n (l ∷ before) ⊎ Among n rest
          further (inl k) = inl (inr k)
          further (inr (inl e)) = inl (inl e)
          further (inr (inr k)) = inr k

    pub is_come_to : (order : List ℕ) → Ordered (action_graph ds) [] order → (n m : ℕ) → Among n order → Ends ds p n m → is_set (flags_at (count ds) p (all_passes ds (starts ds) bodies order)) (number n m) ≡ true
    is_come_to order is n m h ends =
        let low = place_below p in
        let high = end_above 11 (actions ds) in
        all_set [] order (flags_at (count ds) p []) (first_length (count ds) (place_number p)) (first_set (count ds) (place_number p) (omega arith)) (λ l j k. absurd k) is n m (inr h) ends
