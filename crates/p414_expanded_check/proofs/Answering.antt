-- From what the calls answer to what is said of expansions.
use Rattle.std.proofs.Common.{◌≡◌, ℕ, ◌+◌, ◌<◌, ◌≤◌, ◌⊎◌, Bool, true, false, List, [], ◌∷◌, length, get_or, map, inl, inr, Result, refl, sym, ap, ◌∙◌, subst, arith}
use Rattle.std.specs.Prelude.{IfOk}
use Rattle.std.proofs.lemmas.Bool.{cases_lt}
use Rattle.std.proofs.lemmas.List.{length-map}
use Rattle.std.proofs.lemmas.Result.{IfOk-weaker}
use Rattle.digraph.specs.Components.{Condensation, AreComponents}
use Rattle.p414_syntax.specs.declared.syntax.Decl.{Decl}
use Rattle.p414_syntax.specs.declared.place.ArgumentPlace.{ArgumentPlace}
use Rattle.p414_syntax.specs.declared.place.ArgumentPlace.TheVariants as place
use Rattle.p414_syntax.specs.Exact.{IsExact}
use Rattle.p414_syntax.specs.Arguments.{Invocation, invocations_of, actions}
use Rattle.p414_syntax.specs.ActionExpansion.{called_in}
use Rattle.p414_syntax.specs.Actions.{HasBadAction}
use Rattle.p414_syntax.specs.Calls.{ExpandsToWrongCall}
use Rattle.p414_list_check.proofs.Sized.{there_within}
use Rattle.p414_action_check.specs.internal.Counted.{action_graph}
use Rattle.p414_action_check.specs.internal.Known.{IsKnown}
use Rattle.p414_action_check.proofs.Answering.{values_of}
use Rattle.p414_action_check.proofs.Holding.{closed, calls_itself}
use Rattle.p414_expanded_check.specs.declared.flow.Pass.{Pass}
use Rattle.p414_expanded_check.specs.internal.Passing.{IsRefused}
use Rattle.p414_expanded_check.specs.internal.Flow.{place_number, starts, count, all_passes, flags_at, some_refused, IsOrder, ArePasses}
use Rattle.p414_expanded_check.proofs.Meaning.{expands_right, expands_wrong}
use Rattle.p414_expanded_check.proofs.Order.{ordered, some_primitives}
use Rattle.p414_expanded_check.proofs.Judging.{judged}
use Rattle.p414_expanded_check.proofs.Places.{place_below}

-- the order

order_of : (ds : List Decl) (c : Condensation) → AreComponents (action_graph ds) c → (HasBadAction ds → ⊥) → IsOrder ds c.order
order_of ds c are none =
    record {
      behind = ordered (action_graph ds) c are (closed ds) (λ a cycle. none (inl (calls_itself ds (a, cycle))));
      each = λ n a there.
          let h = there_within (actions ds) n a there in
          let same : length (action_graph ds) ≡ length (actions ds) = length-map (actions ds) (called_in ds) in
          (are.nodes n).1 (omega arith);
    }

pub order_is : (ds : List Decl) (g : List (List ℕ)) (c : Condensation) (order : List ℕ) → g ≡ action_graph ds → AreComponents g c → (HasBadAction ds → ⊥) → order ≡ c.order → IsOrder ds order
order_is ds g c order e are none is =
    subst (IsOrder ds) (sym is) (order_of ds c (subst (λ (h : List (List ℕ)). AreComponents h c) e are) none)

pub passes_are : (ds : List Decl) (passes : List Pass) (begins : List ℕ) (calls : List (List Invocation)) (order : List ℕ) → begins ≡ starts ds → calls ≡ map invocations_of (actions ds) → IsOrder ds order → passes ≡ all_passes ds begins calls order → ArePasses ds passes
passes_are ds passes begins calls order b c is e =
    record {
      order = order;
      ordered = is;
      are = e ∙ (ap (λ (w : List ℕ). all_passes ds w calls order) b ∙ ap (λ (w : List (List Invocation)). all_passes ds (starts ds) w order) c);
    }

-- one place

exact_at : (ds : List Decl) (p : ArgumentPlace) → IsKnown ds → (passes : List Pass) → ArePasses ds passes → (b : Bool) → b ≡ some_refused ds p (flags_at (count ds) p passes) (starts ds) (map invocations_of (actions ds)) → IsExact b (IsRefused ds p)
exact_at ds p known passes are b e =
    judged ds known.once known.right p are.order are.ordered b
    (sym (e ∙ ap (λ (w : List Pass). some_refused ds p (flags_at (count ds) p w) (starts ds) (map invocations_of (actions ds))) are.are))

pub refused_by : {E : Type 0} (ds : List Decl) (p : ArgumentPlace) → IsKnown ds → (passes : List Pass) → ArePasses ds passes → (flags : List Bool) (size : ℕ) (begins : List ℕ) (calls : List (List Invocation)) → size ≡ count ds → begins ≡ starts ds → calls ≡ map invocations_of (actions ds) → flags ≡ flags_at size p passes
    → (result : Result Bool E) → IfOk result (λ b. b ≡ some_refused ds p flags begins calls) → IfOk result (λ b. IsExact b (IsRefused ds p))
refused_by ds p known passes are flags size begins calls s b c f result h =
    IfOk-weaker result (λ r. r ≡ some_refused ds p flags begins calls) (λ r. IsExact r (IsRefused ds p)) (λ r e. exact_at ds p known passes are r (e ∙ same)) h where
      same : some_refused ds p flags begins calls ≡ some_refused ds p (flags_at (count ds) p passes) (starts ds) (map invocations_of (actions ds))
      same =
          ap (λ (w : List Bool). some_refused ds p w begins calls) (f ∙ ap (λ n. flags_at n p passes) s)
          ∙ (ap (λ (w : List ℕ). some_refused ds p (flags_at (count ds) p passes) w calls) b ∙ ap (λ (w : List (List Invocation)). some_refused ds p (flags_at (count ds) p passes) (starts ds) w) c)

-- all places

pub wrong_is : (ds : List Decl) (p : ArgumentPlace) (passes : List Pass) → ArePasses ds passes → IsRefused ds p → ExpandsToWrongCall ds
wrong_is ds p passes are r = expands_wrong ds (some_primitives ds are.order are.ordered.behind are.ordered.each) p r

pub none_is : (ds : List Decl) → IsKnown ds → ((p : ArgumentPlace) → place_number p < 11 → IsRefused ds p → ⊥) → ExpandsToWrongCall ds → ⊥
none_is ds known none = expands_right ds (values_of ds known) known.right (λ p. none p (place_below p))

-- the places before one, and that one
pub next_place : (ds : List Decl) (i : ℕ) (q : ArgumentPlace) → ((p : ArgumentPlace) → place_number p < i → IsRefused ds p → ⊥) → ((p : ArgumentPlace) → place_number p ≡ i → p ≡ q) → (IsRefused ds q → ⊥) → (p : ArgumentPlace) → place_number p < i + 1 → IsRefused ds p → ⊥
next_place ds i q before same now p h r = by_order (cases_lt (place_number p) i) where
  by_order : (place_number p < i) ⊎ (i ≤ place_number p) → ⊥
  by_order (inl k) = before p k r
  by_order (inr k) = now (subst (IsRefused ds) (same p (omega arith)) r)

-- the place with a number, in the list of all

abbrev all_places : List ArgumentPlace
all_places =
    place.Target ∷ place.Source ∷ place.Unsigned ∷ place.Header ∷ place.Stack ∷ place.Elements ∷ place.Counter
    ∷ place.Register ∷ place.Meter ∷ place.Calculation ∷ place.List ∷ []

at_own : (d p : ArgumentPlace) → p ≡ get_or all_places (place_number p) d
at_own d place.Target = refl
at_own d place.Source = refl
at_own d place.Unsigned = refl
at_own d place.Header = refl
at_own d place.Stack = refl
at_own d place.Elements = refl
at_own d place.Counter = refl
at_own d place.Register = refl
at_own d place.Meter = refl
at_own d place.Calculation = refl
at_own d place.List = refl

pub same_among : (d : ArgumentPlace) (i : ℕ) (p : ArgumentPlace) → place_number p ≡ i → p ≡ get_or all_places i d
same_among d i p e = subst (λ n. p ≡ get_or all_places n d) e (at_own d p)

-- an exact answer

pub exact_true : {P : Type 0} (b : Bool) → IsExact b P → b ≡ true → P
exact_true true h e = h
exact_true false h e = absurd (cc e)

pub exact_false : {P : Type 0} (b : Bool) → IsExact b P → b ≡ false → P → ⊥
exact_false true h e = absurd (cc e)
exact_false false h e = h
