-- From what the calls answer to what is said of the actions.
use Rattle.std.proofs.Common.{◌≡◌, ℕ, ◌+◌, max, min, Bool, true, false, cond, is_some, nat_lt, List, [], ◌∷◌, length, map, sum_by, inl, inr, ⊎_elim, Option, Some, None, MatchOption, Result, refl, sym, ap, ◌∙◌, subst, arith}
use Rattle.std.specs.Global.{Vec}
use Rattle.std.specs.Prelude.{IfOk, IsTrue, unwrap_or}
use Rattle.std.specs.List.{list_any}
use Rattle.std.proofs.lemmas.List.{length-map}
use Rattle.std.proofs.lemmas.List.Sums.{sum_by-cons}
use Rattle.std.proofs.lemmas.Result.{IfOk-weaker}
use Rattle.digraph.specs.Graphs.{IsClosed}
use Rattle.digraph.specs.Expansions.{AreSizes, HasCycle}
use Rattle.p414_syntax.specs.declared.syntax.Decl.{Decl}
use Rattle.p414_syntax.specs.declared.place.ArgumentPlace.{ArgumentPlace}
use Rattle.p414_syntax.specs.Primitives.{places_of, primitive_places}
use Rattle.p414_syntax.specs.Exact.{IsExact}
use Rattle.p414_syntax.specs.Breaks.{IsBroken, BreaksNone, declaration_rules}
use Rattle.p414_syntax.specs.Calls.{has_wrong_call}
use Rattle.p414_syntax.specs.Arguments.{Argument, Invocation, invocations_of, actions, action_number, action_of, wanted_by, placed, placed_in, placed_argument}
use Rattle.p414_syntax.specs.ActionExpansion.{called_in}
use Rattle.p414_syntax.specs.Actions.{HasBadAction, ActionCallsItself, ActionTooLong, ActionsTooLong, all_listed}
use Rattle.p414_list_check.specs.Lengths.{AreLengths}
use Rattle.p414_action_check.specs.internal.Counted.{action_graph, input_lengths, hashed_length, placed_length, primitive_count, own_count, calls_count, own_counts, total_from, exceeds}
use Rattle.p414_action_check.specs.internal.Known.{IsKnown, AreInputs, AreActionSizes}
use Rattle.p414_action_check.proofs.Numbers.{no_action}
use Rattle.p414_action_check.proofs.Given.{GivesValues, gives_values}
use Rattle.p414_action_check.proofs.Holding.{closed, calls_itself, calls_none}
use Rattle.p414_action_check.proofs.Deciding.{long_is, none_long, listed_long, listed_short}

-- what a call counts by itself

placed_is : (ds : List Decl) (inputs : List ℕ) (ps : List ArgumentPlace) (xs : List Argument) → sum_by (hashed_length ds inputs) (placed ps xs) ≡ placed_length ds inputs ps xs
placed_is ds inputs [] [] = refl
placed_is ds inputs [] (x ∷ xs) = placed_is ds inputs [] xs ∙ zero_more (placed_length ds inputs [] xs) where
  zero_more : (n : ℕ) → n ≡ 0 + n
  zero_more n = omega arith
placed_is ds inputs (p ∷ ps) [] = refl
placed_is ds inputs (p ∷ ps) (x ∷ xs) =
    sum_by-cons (hashed_length ds inputs) (placed_argument p x) (placed ps xs) ∙ ap (λ n. hashed_length ds inputs (placed_argument p x) + n) (placed_is ds inputs ps xs)

wanted_alone : (o : Option (List ArgumentPlace)) → unwrap_or (wanted_by o None) [] ≡ unwrap_or o []
wanted_alone None = refl
wanted_alone (Some ps) = refl

pub own_primitive : (ds : List Decl) (inputs : List ℕ) (i : Invocation) → action_number ds i.callee ≡ None → max 1 (min 65537 (placed_length ds inputs (primitive_places i.callee) i.arguments)) ≡ own_count ds inputs i
own_primitive ds inputs i e =
    let places : unwrap_or (wanted_by (places_of i.callee) (action_of ds i.callee)) [] ≡ primitive_places i.callee = ap (λ o. unwrap_or (wanted_by (places_of i.callee) o) []) (no_action ds i.callee e) ∙ wanted_alone (places_of i.callee) in
    let same : sum_by (hashed_length ds inputs) (placed_in ds i) ≡ placed_length ds inputs (primitive_places i.callee) i.arguments = ap (λ ps. sum_by (hashed_length ds inputs) (placed ps i.arguments)) places ∙ placed_is ds inputs (primitive_places i.callee) i.arguments in
    ap (λ n. max 1 (min 65537 n)) (sym same) ∙ sym (ap (λ o. cond (is_some o) 0 (primitive_count ds inputs i)) e)

pub own_action : (ds : List Decl) (inputs : List ℕ) (i : Invocation) (n : ℕ) → action_number ds i.callee ≡ Some n → 0 ≡ own_count ds inputs i
own_action ds inputs i n e = sym (ap (λ o. cond (is_some o) 0 (primitive_count ds inputs i)) e)

-- the graph

pub closed_by : (ds : List Decl) (g : List (List ℕ)) → g ≡ action_graph ds → IsClosed g
closed_by ds g e = subst (λ (n : List (List ℕ)). IsClosed n) (sym e) (closed ds)

pub own_each : (ds : List Decl) (inputs : List ℕ) (g : List (List ℕ)) (calls : List (List Invocation)) (counts : List ℕ) → g ≡ action_graph ds → calls ≡ map invocations_of (actions ds) → counts ≡ map (calls_count ds inputs) calls → length counts ≡ length g
own_each ds inputs g calls counts e k h =
    ap length h
    ∙ (length-map calls (calls_count ds inputs) ∙ (ap length k ∙ (length-map (actions ds) invocations_of ∙ (sym (length-map (actions ds) (called_in ds)) ∙ ap length (sym e)))))

pub sizes_by : {E : Type 0} (result : Result (Option (Vec ℕ)) E) (g graph : List (List ℕ)) (counts own : List ℕ) → g ≡ graph → counts ≡ own → IfOk result (λ found. MatchOption found (HasCycle g) (λ s. AreSizes g counts 65537 s.items)) → IfOk result (λ found. MatchOption found (HasCycle graph) (λ s. AreSizes graph own 65537 s.items))
sizes_by result g graph counts own e h known =
    subst (λ (o : List ℕ). IfOk result (λ found. MatchOption found (HasCycle graph) (λ s. AreSizes graph o 65537 s.items))) h
    (subst (λ (n : List (List ℕ)). IfOk result (λ found. MatchOption found (HasCycle n) (λ s. AreSizes n counts 65537 s.items))) e known)

-- what is known

pub values_of : (ds : List Decl) → IsKnown ds → GivesValues ds
values_of ds known = gives_values ds known.once known.right

not_true : (b : Bool) → (IsTrue b → ⊥) → b ≡ false
not_true true h = absurd (h refl)
not_true false h = refl

pub known_is : (ds : List Decl) → BreaksNone ds declaration_rules → has_wrong_call ds ≡ false → IsKnown ds
unfolding IsBroken
known_is ds none right =
    record { once = not_true _ none.0; named = not_true _ none.1.0; apart = λ h. none.1.1.1.1.1.1.1.0 (inr (inl h)); right = right }

pub inputs_are : (ds : List Decl) (lengths inputs : List ℕ) → AreLengths ds lengths → inputs ≡ input_lengths ds lengths → AreInputs ds inputs
inputs_are ds lengths inputs long e = record { lengths = lengths; long = long; is = e }

-- the answers

pub cycle_is : (ds : List Decl) (own : List ℕ) (found : Option (Vec ℕ)) → MatchOption found (HasCycle (action_graph ds)) (λ s. AreSizes (action_graph ds) own 65537 s.items) → found ≡ None → HasBadAction ds
cycle_is ds own found h e =
    inl (calls_itself ds (subst (λ (o : Option (Vec ℕ)). MatchOption o (HasCycle (action_graph ds)) (λ s. AreSizes (action_graph ds) own 65537 s.items)) e h))

pub sizes_are : (ds : List Decl) (inputs sizes : List ℕ) → AreInputs ds inputs → AreSizes (action_graph ds) (own_counts ds inputs) 65537 sizes → AreActionSizes ds sizes
sizes_are ds inputs sizes are known =
    record { lengths = are.lengths; long = are.long; known = subst (λ (ns : List ℕ). AreSizes (action_graph ds) (own_counts ds ns) 65537 sizes) are.is known }

pub too_long_is : (ds : List Decl) (sizes : List ℕ) → IsKnown ds → AreActionSizes ds sizes → list_any (nat_lt 4096) sizes ≡ true → HasBadAction ds
too_long_is ds sizes known are e = inr (inl (long_is ds (values_of ds known) are.lengths are.long sizes are.known known.named e))

tables_are : (ds : List Decl) (sizes : List ℕ) → IsKnown ds → AreActionSizes ds sizes → (bad : Bool) → exceeds (total_from 65537 sizes 0 (map (action_number ds) (all_listed ds))) 65536 ≡ bad → IsExact bad (ActionsTooLong ds)
tables_are ds sizes known are true e = listed_long ds (values_of ds known) are.lengths are.long sizes are.known known.named e
tables_are ds sizes known are false e = listed_short ds (values_of ds known) are.lengths are.long sizes are.known e

pub tables_by : (ds : List Decl) (sizes : List ℕ) → IsKnown ds → AreActionSizes ds sizes → (listed : List (Option ℕ)) (bad : Bool) → listed ≡ map (action_number ds) (all_listed ds) → bad ≡ exceeds (total_from 65537 sizes 0 listed) 65536 → IsExact bad (ActionsTooLong ds)
tables_by ds sizes known are listed bad e is =
    tables_are ds sizes known are bad (sym (is ∙ ap (λ (l : List (Option ℕ)). exceeds (total_from 65537 sizes 0 l) 65536) e))

short_is : (ds : List Decl) (bad : Bool) → (ActionCallsItself ds → ⊥) → (ActionTooLong ds → ⊥) → IsExact bad (ActionsTooLong ds) → IsExact bad (HasBadAction ds)
short_is ds true cycle long h = inr (inr h)
short_is ds false cycle long h = λ all. ⊎_elim cycle (λ l. ⊎_elim long h l) all

pub short_on : {E : Type 0} (ds : List Decl) (sizes : List ℕ) → IsKnown ds → AreActionSizes ds sizes → list_any (nat_lt 4096) sizes ≡ false → (result : Result Bool E) → IfOk result (λ bad. IsExact bad (ActionsTooLong ds)) → IfOk result (λ bad. IsExact bad (HasBadAction ds))
short_on ds sizes known are e result h =
    IfOk-weaker result (λ bad. IsExact bad (ActionsTooLong ds)) (λ bad. IsExact bad (HasBadAction ds))
    (λ bad exact. short_is ds bad (calls_none ds are.known.acyclic) (none_long ds (values_of ds known) are.lengths are.long sizes are.known e) exact) h
