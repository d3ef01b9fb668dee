-- What the passes of an action are.
use Rattle.std.proofs.Common.{◌≡◌, ℕ, suc, zero, ◌+◌, ◌⊎◌, List, [], ◌∷◌, ◌++◌, get_or, map, flat_map, slice_get, slice_index, inl, inr, Option, Some, None, refl, sym, ap, ◌∙◌, subst, arith}
use Rattle.p414_syntax.specs.declared.actions.Action.{Action}
use Rattle.p414_syntax.specs.declared.syntax.Decl.{Decl}
use Rattle.p414_syntax.specs.declared.place.ArgumentPlace.{ArgumentPlace}
use Rattle.p414_syntax.specs.Primitives.{primitive_places}
use Rattle.p414_syntax.specs.Arguments.{Argument, number_argument, field_argument, parameter_argument, name_argument, Invocation, invocations_of, actions, action_number, placed, placed_argument}
use Rattle.p414_expanded_check.specs.declared.flow.Pass.{Pass}
use Rattle.p414_expanded_check.specs.internal.Passing.{In}
use Rattle.p414_expanded_check.specs.internal.Flow.{place_number, pass_of, passes_on, passes_at, passes_by, passes_in, passes_of}
use Rattle.p414_expanded_check.proofs.Members.{in_first, in_second, in_flat}

abbrev pub pass : ℕ → ℕ → Pass
pass from to = record { from = from; to = to }

-- what stands in two lists joined

either : {X : Type 0} (x : X) (xs ys : List X) → In x (xs ++ ys) → In x xs ⊎ In x ys
either x [] ys h = inr h
either x (z ∷ xs) ys (inl e) = inl (inl e)
either x (z ∷ xs) ys (inr h) = further (either x xs ys h) where
  further : In x xs ⊎ In x ys → In x (z ∷ xs) ⊎ In x ys
  further (inl k) = inl (inr k)
  further (inr k) = inr k

pub of_flat : {X Y : Type 0} (f : X → List Y) (xs : List X) (y : Y) → In y (flat_map f xs) → (x : X) × In x xs × In y (f x)
of_flat f [] y h = absurd h
of_flat {X = X} f (z ∷ xs) y h = by_either (of_flat f xs y) (either y (f z) (flat_map f xs) h) where
  by_either : (In y (flat_map f xs) → (x : X) × In x xs × In y (f x)) → In y (f z) ⊎ In y (flat_map f xs) → (x : X) × In x (z ∷ xs) × In y (f x)
  by_either again (inl k) = (z, inl refl, k)
  by_either again (inr k) = let r = again k in (r.0, inr r.1, r.2)

-- one argument

one_pass : (from here : ℕ) (x : Argument) (e : Pass) → In e (pass_of from here x) → (m : ℕ) × (x ≡ parameter_argument m) × (e ≡ pass from (here + m))
one_pass from here (number_argument n) e h = absurd h
one_pass from here (field_argument r) e h = absurd h
one_pass from here (name_argument i) e h = absurd h
one_pass from here (parameter_argument m) e (inl s) = (m, refl, s)
one_pass from here (parameter_argument m) e (inr h) = absurd h

-- arguments that are given for parameters

pub record IsOn (from here : ℕ) (xs : List Argument) (e : Pass) : Type 0 where
  pub position : ℕ
  pub parameter : ℕ
  pub passes : slice_get xs position ≡ Some (parameter_argument parameter)
  pub starts : e.from ≡ from + position
  pub ends : e.to ≡ here + parameter

pub is_on : (from here : ℕ) (xs : List Argument) (e : Pass) → In e (passes_on from here xs) → IsOn from here xs e
is_on from here [] e h = absurd h
is_on from here (x ∷ xs) e h = by_either (is_on (from + 1) here xs e) (either e (pass_of from here x) (passes_on (from + 1) here xs) h) where
  by_either : (In e (passes_on (from + 1) here xs) → IsOn (from + 1) here xs e) → In e (pass_of from here x) ⊎ In e (passes_on (from + 1) here xs) → IsOn from here (x ∷ xs) e
  by_either again (inl k) =
      let r = one_pass from here x e k in
      record { position = 0; parameter = r.0; passes = ap Some r.1; starts = ap (λ (p : Pass). p.from) r.2 ∙ omega arith; ends = ap (λ (p : Pass). p.to) r.2 }
  by_either again (inr k) =
      let r = again k in
      record { position = suc r.position; parameter = r.parameter; passes = r.passes; starts = r.starts ∙ omega arith; ends = r.ends }

pub on_there : (from here : ℕ) (xs : List Argument) (j m : ℕ) → slice_get xs j ≡ Some (parameter_argument m) → In (pass (from + j) (here + m)) (passes_on from here xs)
on_there from here [] j m e = absurd (cc e)
on_there from here (x ∷ xs) zero m e =
    in_first (pass (from + 0) (here + m)) (pass_of from here x) (passes_on (from + 1) here xs)
    (subst (λ (y : Argument). In (pass (from + 0) (here + m)) (pass_of from here y)) (sym (some_is e)) (inl (ap (λ n. pass n (here + m)) (omega arith)))) where
      some_is : Some x ≡ Some (parameter_argument m) → x ≡ parameter_argument m
      some_is s = cc s
on_there from here (x ∷ xs) (suc j) m e =
    in_second (pass (from + suc j) (here + m)) (pass_of from here x) (passes_on (from + 1) here xs)
    (subst (λ n. In (pass n (here + m)) (passes_on (from + 1) here xs)) (omega arith) (on_there (from + 1) here xs j m e))

-- arguments at places of a primitive

pub record IsAt (here : ℕ) (ps : List ArgumentPlace) (xs : List Argument) (e : Pass) : Type 0 where
  pub at : ArgumentPlace
  pub parameter : ℕ
  pub stands : In (placed_argument at (parameter_argument parameter)) (placed ps xs)
  pub starts : e.from ≡ place_number at
  pub ends : e.to ≡ here + parameter

nothing_at : (here : ℕ) (xs : List Argument) (e : Pass) → In e (passes_at here [] xs) → ⊥
nothing_at here [] e h = h
nothing_at here (x ∷ xs) e h = nothing_at here xs e h

pub is_at : (here : ℕ) (ps : List ArgumentPlace) (xs : List Argument) (e : Pass) → In e (passes_at here ps xs) → IsAt here ps xs e
is_at here [] xs e h = absurd (nothing_at here xs e h)
is_at here (p ∷ ps) [] e h = absurd h
is_at here (p ∷ ps) (x ∷ xs) e h = by_either (is_at here ps xs e) (either e (pass_of (place_number p) here x) (passes_at here ps xs) h) where
  by_either : (In e (passes_at here ps xs) → IsAt here ps xs e) → In e (pass_of (place_number p) here x) ⊎ In e (passes_at here ps xs) → IsAt here (p ∷ ps) (x ∷ xs) e
  by_either again (inl k) =
      let r = one_pass (place_number p) here x e k in
      record { at = p; parameter = r.0; stands = inl (ap (placed_argument p) (sym r.1)); starts = ap (λ (q : Pass). q.from) r.2; ends = ap (λ (q : Pass). q.to) r.2 }
  by_either again (inr k) =
      let r = again k in
      record { at = r.at; parameter = r.parameter; stands = inr r.stands; starts = r.starts; ends = r.ends }

pub at_there : (here : ℕ) (ps : List ArgumentPlace) (xs : List Argument) (p : ArgumentPlace) (m : ℕ) → In (placed_argument p (parameter_argument m)) (placed ps xs) → In (pass (place_number p) (here + m)) (passes_at here ps xs)
at_there here [] xs p m h = absurd h
at_there here (q ∷ ps) [] p m h = absurd h
at_there here (q ∷ ps) (x ∷ xs) p m (inl e) =
    in_first (pass (place_number p) (here + m)) (pass_of (place_number q) here x) (passes_at here ps xs)
    (subst (λ w. In (pass (place_number p) (here + m)) (pass_of (place_number w.wanted) here w.argument)) e (inl refl))
at_there here (q ∷ ps) (x ∷ xs) p m (inr h) =
    in_second (pass (place_number p) (here + m)) (pass_of (place_number q) here x) (passes_at here ps xs) (at_there here ps xs p m h)

-- a call

pub record IsCalled (ds : List Decl) (begins : List ℕ) (here : ℕ) (i : Invocation) (e : Pass) (k : ℕ) : Type 0 where
  pub calls : action_number ds i.callee ≡ Some k
  pub on : IsOn (slice_index begins k) here i.arguments e

pub record IsStanding (ds : List Decl) (here : ℕ) (i : Invocation) (e : Pass) : Type 0 where
  pub alone : action_number ds i.callee ≡ None
  pub at : IsAt here (primitive_places i.callee) i.arguments e

pub is_in : (ds : List Decl) (begins : List ℕ) (here : ℕ) (i : Invocation) (e : Pass) → In e (passes_in ds begins here i) → ((k : ℕ) × IsCalled ds begins here i e k) ⊎ IsStanding ds here i e
is_in ds begins here i e h = by_number (action_number ds i.callee) refl h where
  by_number : (o : Option ℕ) → action_number ds i.callee ≡ o → In e (passes_by begins here i o) → ((k : ℕ) × IsCalled ds begins here i e k) ⊎ IsStanding ds here i e
  by_number None is m = inr (record { alone = is; at = is_at here (primitive_places i.callee) i.arguments e m })
  by_number (Some k) is m = inl (k, record { calls = is; on = is_on (slice_index begins k) here i.arguments e m })

pub called_there : (ds : List Decl) (begins : List ℕ) (here : ℕ) (i : Invocation) (k j m : ℕ) → action_number ds i.callee ≡ Some k → slice_get i.arguments j ≡ Some (parameter_argument m) → In (pass (slice_index begins k + j) (here + m)) (passes_in ds begins here i)
called_there ds begins here i k j m calls passes =
    subst (λ o. In (pass (slice_index begins k + j) (here + m)) (passes_by begins here i o)) (sym calls) (on_there (slice_index begins k) here i.arguments j m passes)

pub standing_there : (ds : List Decl) (begins : List ℕ) (here : ℕ) (i : Invocation) (p : ArgumentPlace) (m : ℕ) → action_number ds i.callee ≡ None → In (placed_argument p (parameter_argument m)) (placed (primitive_places i.callee) i.arguments) → In (pass (place_number p) (here + m)) (passes_in ds begins here i)
standing_there ds begins here i p m alone stands =
    subst (λ o. In (pass (place_number p) (here + m)) (passes_by begins here i o)) (sym alone) (at_there here (primitive_places i.callee) i.arguments p m stands)

-- the calls of the action with a number

calls_at : (bodies : List Action) (n : ℕ) (a : Action) → slice_get bodies n ≡ Some a → get_or (map invocations_of bodies) n [] ≡ invocations_of a
calls_at [] n a e = absurd (cc e)
calls_at (b ∷ bodies) zero a e = let same : b ≡ a = cc e in ap invocations_of same
calls_at (b ∷ bodies) (suc n) a e = calls_at bodies n a e

no_calls_at : (bodies : List Action) (n : ℕ) → slice_get bodies n ≡ None → get_or (map invocations_of bodies) n [] ≡ []
no_calls_at [] n e = refl
no_calls_at (b ∷ bodies) zero e = absurd (cc e)
no_calls_at (b ∷ bodies) (suc n) e = no_calls_at bodies n e

pub of_action : (ds : List Decl) (begins : List ℕ) (n : ℕ) (e : Pass) → In e (passes_of ds begins (map invocations_of (actions ds)) n) → (a : Action) × (slice_get (actions ds) n ≡ Some a) × (i : Invocation) × In i (invocations_of a) × In e (passes_in ds begins (slice_index begins n) i)
of_action ds begins n e h = by_action (slice_get (actions ds) n) refl where
  by_action : (o : Option Action) → slice_get (actions ds) n ≡ o → (a : Action) × (slice_get (actions ds) n ≡ Some a) × (i : Invocation) × In i (invocations_of a) × In e (passes_in ds begins (slice_index begins n) i)
  by_action None is = absurd (subst (λ l. In e (flat_map (passes_in ds begins (slice_index begins n)) l)) (no_calls_at (actions ds) n is) h)
  by_action (Some a) is =
      let r = of_flat (passes_in ds begins (slice_index begins n)) (invocations_of a) e (subst (λ l. In e (flat_map (passes_in ds begins (slice_index begins n)) l)) (calls_at (actions ds) n a is) h) in
      (a, is, r.0, r.1, r.2)

pub action_there : (ds : List Decl) (begins : List ℕ) (n : ℕ) (a : Action) (i : Invocation) (e : Pass) → slice_get (actions ds) n ≡ Some a → In i (invocations_of a) → In e (passes_in ds begins (slice_index begins n) i) → In e (passes_of ds begins (map invocations_of (actions ds)) n)
action_there ds begins n a i e is m h =
    subst (λ l. In e (flat_map (passes_in ds begins (slice_index begins n)) l)) (sym (calls_at (actions ds) n a is)) (in_flat (passes_in ds begins (slice_index begins n)) (invocations_of a) i e m h)
