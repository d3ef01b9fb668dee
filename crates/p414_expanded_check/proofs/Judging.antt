-- Where what is given for a parameter isn't taken is seen by what is come to.
use Rattle.std.proofs.Common.{◌≡◌, ℕ, suc, zero, ◌+◌, Bool, true, false, ◌||◌, ◌&&◌, List, [], ◌∷◌, map, slice_get, slice_index, inl, inr, Option, Some, None, refl, sym, ap, ◌∙◌, subst, arith}
use Rattle.std.specs.List.{list_any}
use Rattle.p414_syntax.specs.declared.actions.Action.{Action}
use Rattle.p414_syntax.specs.declared.syntax.Decl.{Decl}
use Rattle.p414_syntax.specs.declared.place.ArgumentPlace.{ArgumentPlace}
use Rattle.p414_syntax.specs.Exact.{IsExact}
use Rattle.p414_syntax.specs.Twice.{declares_twice}
use Rattle.p414_syntax.specs.Arguments.{Argument, Invocation, invocations_of, actions, action_number}
use Rattle.p414_syntax.specs.Calls.{has_wrong_call}
use Rattle.p414_list_check.proofs.Sized.{there_within}
use Rattle.p414_expanded_check.specs.internal.Passing.{In, refuses, IsRefused}
use Rattle.p414_expanded_check.specs.internal.Flow.{starts, count, all_passes, is_set, flags_at, refused_from, refused_by, refused_in, some_refused, IsOrder}
use Rattle.p414_expanded_check.proofs.Flowing.{few_given, is_good, is_come_to}

-- truth values

left : (a b : Bool) → (a && b) ≡ true → a ≡ true
left true b e = refl
left false b e = e

right_of : (a b : Bool) → (a && b) ≡ true → b ≡ true
right_of true b e = e
right_of false b e = absurd (cc e)

both : (a b : Bool) → a ≡ true → b ≡ true → (a && b) ≡ true
both true b e f = f
both false b e f = absurd (cc e)

first_true : (a b : Bool) → a ≡ true → (a || b) ≡ true
first_true true b e = refl
first_true false b e = absurd (cc e)

second_true : (a b : Bool) → b ≡ true → (a || b) ≡ true
second_true true b e = refl
second_true false b e = e

-- one of a list for which a test is true

some_of : {X : Type 0} (p : X → Bool) (xs : List X) → list_any p xs ≡ true → (x : X) × In x xs × (p x ≡ true)
some_of p [] e = absurd (cc e)
some_of {X = X} p (x ∷ xs) e = by_first (some_of p xs) (p x) refl e where
  by_first : (list_any p xs ≡ true → (y : X) × In y xs × (p y ≡ true)) → (b : Bool) → p x ≡ b → (b || list_any p xs) ≡ true → (y : X) × In y (x ∷ xs) × (p y ≡ true)
  by_first more true is h = (x, inl refl, is)
  by_first more false is h = let r = more h in (r.0, inr r.1, r.2)

some_in : {X : Type 0} (p : X → Bool) (xs : List X) (x : X) → In x xs → p x ≡ true → list_any p xs ≡ true
some_in p [] x h e = absurd h
some_in p (y ∷ ys) x (inl s) e = first_true (p y) (list_any p ys) (ap p (sym s) ∙ e)
some_in p (y ∷ ys) x (inr h) e = second_true (p y) (list_any p ys) (some_in p ys x h e)

-- one argument of a call

record IsSeen (p : ArgumentPlace) (flags : List Bool) (from : ℕ) (xs : List Argument) : Type 0 where
  pub position : ℕ
  pub given : Argument
  pub passes : slice_get xs position ≡ Some given
  pub come_to : is_set flags (from + position) ≡ true
  pub refused : refuses p given ≡ true

seen : (p : ArgumentPlace) (flags : List Bool) (from : ℕ) (xs : List Argument) → refused_from p flags from xs ≡ true → IsSeen p flags from xs
seen p flags from [] e = absurd (cc e)
seen p flags from (x ∷ xs) e = by_first (seen p flags (from + 1) xs) (is_set flags from && refuses p x) refl e where
  by_first : (refused_from p flags (from + 1) xs ≡ true → IsSeen p flags (from + 1) xs) → (b : Bool) → (is_set flags from && refuses p x) ≡ b → (b || refused_from p flags (from + 1) xs) ≡ true → IsSeen p flags from (x ∷ xs)
  by_first more true is h =
      record { position = 0; given = x; passes = refl; come_to = ap (is_set flags) (omega arith) ∙ left (is_set flags from) (refuses p x) is; refused = right_of (is_set flags from) (refuses p x) is }
  by_first more false is h =
      let r = more h in
      record { position = suc r.position; given = r.given; passes = r.passes; come_to = ap (is_set flags) (omega arith) ∙ r.come_to; refused = r.refused }

sees : (p : ArgumentPlace) (flags : List Bool) (from : ℕ) (xs : List Argument) (j : ℕ) (x : Argument) → slice_get xs j ≡ Some x → is_set flags (from + j) ≡ true → refuses p x ≡ true → refused_from p flags from xs ≡ true
sees p flags from [] j x e set refused = absurd (cc e)
sees p flags from (y ∷ ys) zero x e set refused =
    let same : y ≡ x = cc e in
    first_true _ _ (both (is_set flags from) (refuses p y) (ap (is_set flags) (omega arith) ∙ set) (ap (refuses p) same ∙ refused))
sees p flags from (y ∷ ys) (suc j) x e set refused =
    second_true (is_set flags from && refuses p y) _ (sees p flags (from + 1) ys j x e (ap (is_set flags) (omega arith) ∙ set) refused)

-- one call

by_called : (ds : List Decl) (p : ArgumentPlace) (flags : List Bool) (i : Invocation) (o : Option ℕ) → action_number ds i.callee ≡ o → refused_by p flags (starts ds) i o ≡ true → (k : ℕ) × (action_number ds i.callee ≡ Some k) × IsSeen p flags (slice_index (starts ds) k) i.arguments
by_called ds p flags i None is e = absurd (cc e)
by_called ds p flags i (Some k) is e = (k, is, seen p flags (slice_index (starts ds) k) i.arguments e)

-- the calls of one action

numbered : (bodies : List Action) (calls : List Invocation) → In calls (map invocations_of bodies) → (n : ℕ) × (a : Action) × (slice_get bodies n ≡ Some a) × (calls ≡ invocations_of a)
numbered [] calls h = absurd h
numbered (b ∷ bodies) calls (inl e) = (0, b, refl, e)
numbered (b ∷ bodies) calls (inr h) = let r = numbered bodies calls h in (suc r.0, r.1, r.2, r.3)

among_bodies : (bodies : List Action) (n : ℕ) (a : Action) → slice_get bodies n ≡ Some a → In (invocations_of a) (map invocations_of bodies)
among_bodies [] n a e = absurd (cc e)
among_bodies (b ∷ bodies) zero a e = let same : b ≡ a = cc e in inl (ap invocations_of (sym same))
among_bodies (b ∷ bodies) (suc n) a e = inr (among_bodies bodies n a e)

module _ (ds : List Decl) (once : declares_twice ds ≡ false) (right : has_wrong_call ds ≡ false) (p : ArgumentPlace) (order : List ℕ) (is : IsOrder ds order) where
  abbrev bodies : List (List Invocation)
  bodies = map invocations_of (actions ds)

  abbrev flags : List Bool
  flags = flags_at (count ds) p (all_passes ds (starts ds) bodies order)

  refused_is : some_refused ds p flags (starts ds) bodies ≡ true → IsRefused ds p
  refused_is e =
      let calls = some_of (list_any (refused_in ds p flags (starts ds))) bodies e in
      let n = numbered (actions ds) calls.0 calls.1 in
      let call = some_of (refused_in ds p flags (starts ds)) calls.0 calls.2 in
      let k = by_called ds p flags call.0 (action_number ds call.0.callee) refl call.2 in
      let within : In call.0 (invocations_of n.1) = subst (λ (l : List Invocation). In call.0 l) n.3 call.1 in
      let c = few_given ds once right n.0 n.1 call.0 k.0 n.2 within k.1 in
      let s = k.2 in
      let h = there_within call.0.arguments s.position s.given s.passes in
      record {
        caller = n.0;
        action = n.1;
        call = call.0;
        callee = k.0;
        position = s.position;
        given = s.given;
        there = n.2;
        within = within;
        calls = k.1;
        passes = s.passes;
        ends = is_good ds once right p order k.0 c.0 s.position c.1 (omega arith) s.come_to;
        refused = s.refused;
      }

  seen_is : IsRefused ds p → some_refused ds p flags (starts ds) bodies ≡ true
  seen_is r =
      let c = few_given ds once right r.caller r.action r.call r.callee r.there r.within r.calls in
      let set : is_set flags (slice_index (starts ds) r.callee + r.position) ≡ true = is_come_to ds once right p order is.behind r.callee r.position (is.each r.callee c.0 c.1) r.ends in
      some_in (list_any (refused_in ds p flags (starts ds))) bodies (invocations_of r.action) (among_bodies (actions ds) r.caller r.action r.there)
      (some_in (refused_in ds p flags (starts ds)) (invocations_of r.action) r.call r.within
      (ap (refused_by p flags (starts ds) r.call) r.calls ∙ sees p flags (slice_index (starts ds) r.callee) r.call.arguments r.position r.given r.passes set r.refused))

  pub judged : (b : Bool) → some_refused ds p flags (starts ds) bodies ≡ b → IsExact b (IsRefused ds p)
  judged true e = refused_is e
  judged false e = λ r. cc (e, seen_is r)
