-- The numbers of places and parameters.
use Rattle.std.proofs.Common.{◌≡◌, ℕ, suc, zero, ◌+◌, ◌<◌, ◌≤◌, Bool, true, false, List, [], ◌∷◌, length, get_or, map, slice_get, inl, inr, Option, Some, None, is_some, refl, sym, ap, ◌∙◌, subst, arith}
use Rattle.std.specs.Str.{bytes_eq}
use Rattle.std.specs.Prelude.{cond}
use Rattle.std.proofs.lemmas.List.Quantifiers.{position-Some}
use Rattle.p414_syntax.specs.declared.parts.Inst.{Inst}
use Rattle.p414_syntax.specs.declared.actions.Arg.{Arg}
use Rattle.p414_syntax.specs.declared.actions.Arg.TheVariants as arg
use Rattle.p414_syntax.specs.declared.actions.Call.{Call}
use Rattle.p414_syntax.specs.declared.actions.Action.{Action}
use Rattle.p414_syntax.specs.declared.place.ArgumentPlace.{ArgumentPlace}
use Rattle.p414_syntax.specs.declared.place.ArgumentPlace.TheVariants as place
use Rattle.p414_syntax.specs.Names.{Name, find_name}
use Rattle.p414_syntax.specs.Arguments.{parameter_argument, name_argument, Invocation, invocation_of, invocations_of, argument_of, parameter_or_name}
use Rattle.p414_expanded_check.specs.internal.Passing.{In}
use Rattle.p414_expanded_check.specs.internal.Flow.{place_number, starts_from, end_from}

-- places

pub place_at : ℕ → ArgumentPlace
place_at n = pick n where
  pick : ℕ → ArgumentPlace
  pick zero = place.Target
  pick (suc zero) = place.Source
  pick (suc (suc zero)) = place.Unsigned
  pick (suc (suc (suc zero))) = place.Header
  pick (suc (suc (suc (suc zero)))) = place.Stack
  pick (suc (suc (suc (suc (suc zero))))) = place.Elements
  pick (suc (suc (suc (suc (suc (suc zero)))))) = place.Counter
  pick (suc (suc (suc (suc (suc (suc (suc zero))))))) = place.Register
  pick (suc (suc (suc (suc (suc (suc (suc (suc zero)))))))) = place.Meter
  pick (suc (suc (suc (suc (suc (suc (suc (suc (suc zero))))))))) = place.Calculation
  pick _ = place.List

place_is : (p : ArgumentPlace) → place_at (place_number p) ≡ p
unfolding place_at
place_is place.Target = refl
place_is place.Source = refl
place_is place.Unsigned = refl
place_is place.Header = refl
place_is place.Stack = refl
place_is place.Elements = refl
place_is place.Counter = refl
place_is place.Register = refl
place_is place.Meter = refl
place_is place.Calculation = refl
place_is place.List = refl

pub same_place : (p q : ArgumentPlace) → place_number p ≡ place_number q → p ≡ q
same_place p q e = sym (place_is p) ∙ (ap place_at e ∙ place_is q)

pub place_below : (p : ArgumentPlace) → place_number p < 11
place_below place.Target = omega arith
place_below place.Source = omega arith
place_below place.Unsigned = omega arith
place_below place.Header = omega arith
place_below place.Stack = omega arith
place_below place.Elements = omega arith
place_below place.Counter = omega arith
place_below place.Register = omega arith
place_below place.Meter = omega arith
place_below place.Calculation = omega arith
place_below place.List = omega arith

-- the numbers of parameters

pub begins_above : (first : ℕ) (bodies : List Action) (n : ℕ) (a : Action) → slice_get bodies n ≡ Some a → first ≤ get_or (starts_from first bodies) n 0
begins_above first [] n a e = absurd (cc e)
begins_above first (b ∷ bodies) zero a e = omega arith
begins_above first (b ∷ bodies) (suc n) a e = let h = begins_above (first + length b.parameters) bodies n a e in omega arith

pub end_above : (first : ℕ) (bodies : List Action) → first ≤ end_from first bodies
end_above first [] = omega arith
end_above first (b ∷ bodies) = let h = end_above (first + length b.parameters) bodies in omega arith

pub begins_within : (first : ℕ) (bodies : List Action) (n : ℕ) (a : Action) (m : ℕ) → slice_get bodies n ≡ Some a → m < length a.parameters → get_or (starts_from first bodies) n 0 + m < end_from first bodies
begins_within first [] n a m e h = absurd (cc e)
begins_within first (b ∷ bodies) zero a m e h =
    let k = end_above (first + length b.parameters) bodies in
    let s : length b.parameters ≡ length a.parameters = ap (λ (o : Option Action). length (parameters_of o)) e in
    omega arith where
      parameters_of : Option Action → List Name
      parameters_of None = []
      parameters_of (Some x) = x.parameters
begins_within first (b ∷ bodies) (suc n) a m e h = begins_within (first + length b.parameters) bodies n a m e h

-- a number is that of one parameter alone

some_parameters : (b a : Action) → Some b ≡ Some a → length b.parameters ≡ length a.parameters
some_parameters b a e = ap length (cc e)

pub one_parameter : (first : ℕ) (bodies : List Action) (n k m j : ℕ) (a c : Action) → slice_get bodies n ≡ Some a → slice_get bodies k ≡ Some c → m < length a.parameters → j < length c.parameters
    → get_or (starts_from first bodies) n 0 + m ≡ get_or (starts_from first bodies) k 0 + j → (n ≡ k) × (m ≡ j)
one_parameter first [] n k m j a c e f h i s = absurd (cc e)
one_parameter first (b ∷ bodies) zero zero m j a c e f h i s = (refl, omega arith)
one_parameter first (b ∷ bodies) zero (suc k) m j a c e f h i s =
    let q = begins_above (first + length b.parameters) bodies k c f in
    let t = some_parameters b a e in
    absurd (omega arith)
one_parameter first (b ∷ bodies) (suc n) zero m j a c e f h i s =
    let q = begins_above (first + length b.parameters) bodies n a e in
    let t = some_parameters b c f in
    absurd (omega arith)
one_parameter first (b ∷ bodies) (suc n) (suc k) m j a c e f h i s =
    let r = one_parameter (first + length b.parameters) bodies n k m j a c e f h i s in (ap suc r.0, r.1)

-- a parameter that stands in a call of an action is one of that action's

by_name : (parameters : List Name) (i : Inst) (o : Option ℕ) (m : ℕ) → find_name parameters i.name ≡ o → parameter_argument m ≡ parameter_or_name o i → m < length parameters
by_name parameters i None m is e = absurd (cc e)
by_name parameters i (Some n) m is e =
    let h = (position-Some (bytes_eq i.name) parameters n [] is).0 in
    let s : m ≡ n = cc e in
    omega arith

by_index : (parameters : List Name) (i : Inst) (b : Bool) (m : ℕ) → parameter_argument m ≡ cond b (name_argument i) (parameter_or_name (find_name parameters i.name) i) → m < length parameters
by_index parameters i true m e = absurd (cc e)
by_index parameters i false m e = by_name parameters i (find_name parameters i.name) m refl e

one_of : (parameters : List Name) (x : Arg) (m : ℕ) → parameter_argument m ≡ argument_of parameters x → m < length parameters
one_of parameters (arg.Number n) m e = absurd (cc e)
one_of parameters (arg.Field r) m e = absurd (cc e)
one_of parameters (arg.Instance i) m e = by_index parameters i (is_some i.index) m e

all_of : (parameters : List Name) (xs : List Arg) (m : ℕ) → In (parameter_argument m) (map (argument_of parameters) xs) → m < length parameters
all_of parameters [] m h = absurd h
all_of parameters (x ∷ xs) m (inl e) = one_of parameters x m e
all_of parameters (x ∷ xs) m (inr h) = all_of parameters xs m h

in_calls : (parameters : List Name) (cs : List Call) (i : Invocation) (m : ℕ) → In i (map (invocation_of parameters) cs) → In (parameter_argument m) i.arguments → m < length parameters
in_calls parameters [] i m h k = absurd h
in_calls parameters (c ∷ cs) i m (inl e) k = all_of parameters c.arguments m (subst (λ (w : Invocation). In (parameter_argument m) w.arguments) e k)
in_calls parameters (c ∷ cs) i m (inr h) k = in_calls parameters cs i m h k

pub parameter_within : (a : Action) (i : Invocation) (m : ℕ) → In i (invocations_of a) → In (parameter_argument m) i.arguments → m < length a.parameters
parameter_within a i m h k = in_calls a.parameters a.calls i m h k
