-- The lists that calls preserve, by what the calls name.
use Rattle.std.proofs.Common.{◌≡◌, ℕ, zero, suc, ◌+◌, ◌<◌, ◌≤◌, min, ◌⊎◌, inl, inr, ⊎_elim, Bool, true, false, ◌||◌, if◌then◌else◌, List, [], ◌∷◌, ◌++◌, length, get_or, drop, map, flat_map, Option, Some, None, unwrap_or, refl, sym, ap, ◌∙◌, subst, arith}
use Rattle.std.specs.List.{list_any}
use Rattle.std.proofs.lemmas.Bool.{cases_lt}
use Rattle.std.proofs.lemmas.Grind.{flat_map-append}
use Rattle.std.proofs.lemmas.List.{append_assoc, append-nil, drop_more}
use Rattle.p414_syntax.specs.declared.actions.Action.{Action}
use Rattle.p414_syntax.specs.declared.syntax.Decl.{Decl}
use Rattle.p414_syntax.specs.declared.place.ArgumentPlace.{ArgumentPlace}
use Rattle.p414_syntax.specs.declared.place.ArgumentPlace.TheVariants as place
use Rattle.p414_syntax.specs.Names.{Name, has_name}
use Rattle.p414_syntax.specs.Primitives.{places_of}
use Rattle.p414_syntax.specs.Arguments.{Argument, Invocation, PlacedArgument, placed_argument, placed, placed_in, place_of_parameter, wanted_by, action_of, actions, invocations_of, all_invocations}
use Rattle.p414_syntax.specs.Distinct.{distinct, distinct_behind}
use Rattle.p414_syntax.specs.Preserved.{list_at, list_of, preserved_lists}
use Rattle.p414_calls.specs.declared.argument.Argument.{Argument as Given}
use Rattle.p414_calls.specs.Shown.{shown_argument}
use Rattle.lower_names.specs.Picked.{with_name, with_all}
use Rattle.lower_marks.specs.Preserving.{lists_among, lists_in, lists_by}

-- names that are put behind names that were put

pub all_joined : (known xs ys : List Name) → with_all known (xs ++ ys) ≡ with_all (with_all known xs) ys
all_joined known [] ys = refl
all_joined known (x ∷ xs) ys = all_joined (with_name known x) xs ys

pub joined_turn : {X : Type 0} (f : X → List Name) (xs : List X) (i : ℕ) (d : X) (old new whole : List Name) → i < length xs → new ≡ with_all old (f (get_or xs i d)) → with_all old (flat_map f (drop i xs)) ≡ whole → with_all new (flat_map f (drop (i + 1) xs)) ≡ whole
joined_turn f xs i d old new whole h is same =
    ap (λ k. with_all k (flat_map f (drop (i + 1) xs))) is
    ∙ (sym (all_joined old (f (get_or xs i d)) (flat_map f (drop (i + 1) xs)))
    ∙ (sym (ap (λ l. with_all old (flat_map f l)) (drop_more xs i d h)) ∙ same))

-- arguments with their places

pub arguments_turn : (places : List ArgumentPlace) (arguments : List Given) (k : ℕ) (p : ArgumentPlace) (a : Given) (old new whole : List Name) → k < length places → k < length arguments → new ≡ with_all old (list_at (get_or places k p) (shown_argument (get_or arguments k a))) → with_all old (lists_among (drop k places) (map shown_argument (drop k arguments))) ≡ whole → with_all new (lists_among (drop (k + 1) places) (map shown_argument (drop (k + 1) arguments))) ≡ whole
arguments_turn places arguments k p a old new whole h g is same =
    let both : lists_among (drop k places) (map shown_argument (drop k arguments)) ≡ list_at (get_or places k p) (shown_argument (get_or arguments k a)) ++ lists_among (drop (k + 1) places) (map shown_argument (drop (k + 1) arguments)) =
    ap (λ ps. lists_among ps (map shown_argument (drop k arguments))) (drop_more places k p h)
    ∙ ap (λ given. lists_among (get_or places k p ∷ drop (k + 1) places) (map shown_argument given)) (drop_more arguments k a g) in
    ap (λ l. with_all l (lists_among (drop (k + 1) places) (map shown_argument (drop (k + 1) arguments)))) is
    ∙ (sym (all_joined old (list_at (get_or places k p) (shown_argument (get_or arguments k a))) (lists_among (drop (k + 1) places) (map shown_argument (drop (k + 1) arguments))))
    ∙ (ap (with_all old) (sym both) ∙ same))

none_left : {X : Type 0} (xs : List X) (k : ℕ) → length xs ≤ k → drop k xs ≡ []
none_left [] zero h = refl
none_left [] (suc k) h = refl
none_left (x ∷ xs) zero h = absurd (omega arith)
none_left (x ∷ xs) (suc k) h = none_left xs k (omega arith)

no_arguments : (places : List ArgumentPlace) → lists_among places [] ≡ []
no_arguments [] = refl
no_arguments (p ∷ places) = refl

none_among : (places : List ArgumentPlace) (arguments : List Given) (k : ℕ) → min (length places) (length arguments) ≤ k → lists_among (drop k places) (map shown_argument (drop k arguments)) ≡ []
none_among places arguments k h =
    ⊎_elim
    (λ (g : length places ≤ k). ap (λ ps. lists_among ps (map shown_argument (drop k arguments))) (none_left places k g))
    (λ (g : length arguments ≤ k). ap (λ given. lists_among (drop k places) (map shown_argument given)) (none_left arguments k g) ∙ no_arguments (drop k places))
    (one_ends (length places) (length arguments) k h) where
      one_ends : (a b k : ℕ) → min a b ≤ k → (a ≤ k) ⊎ (b ≤ k)
      one_ends a b k h = ⊎_elim (λ (g : a < suc k). inl (omega arith)) (λ (g : suc k ≤ a). inr (omega arith)) (cases_lt a (suc k))

pub arguments_whole : (places : List ArgumentPlace) (arguments : List Given) (k : ℕ) (new whole : List Name) → min (length places) (length arguments) ≤ k → with_all new (lists_among (drop k places) (map shown_argument (drop k arguments))) ≡ whole → new ≡ whole
arguments_whole places arguments k new whole h same =
    sym (ap (with_all new) (none_among places arguments k h)) ∙ same

-- the calls of all actions

flat_flat : {X Y Z : Type 0} (f : Y → List Z) (g : X → List Y) (xs : List X) → flat_map f (flat_map g xs) ≡ flat_map (λ x. flat_map f (g x)) xs
flat_flat f g [] = refl
flat_flat f g (x ∷ xs) = flat_map-append f (g x) (flat_map g xs) ∙ ap (λ l. flat_map f (g x) ++ l) (flat_flat f g xs)

flat_mapped : {X Y Z : Type 0} (f : Y → List Z) (g : X → Y) (xs : List X) → flat_map f (map g xs) ≡ flat_map (λ x. f (g x)) xs
flat_mapped f g [] = refl
flat_mapped f g (x ∷ xs) = ap (λ l. f (g x) ++ l) (flat_mapped f g xs)

same_flat : {X B : Type 0} (f g : X → List B) → ((x : X) → f x ≡ g x) → (xs : List X) → flat_map f xs ≡ flat_map g xs
same_flat f g same xs = λ i. flat_map (λ x. same x i) xs

pub all_listed : (ds : List Decl) → flat_map lists_by (map invocations_of (actions ds)) ≡ lists_by (all_invocations ds)
all_listed ds = flat_mapped lists_by invocations_of (actions ds) ∙ sym (flat_flat lists_in invocations_of (actions ds))

-- no action that is declared takes a list

sources : (parameters : List Name) (arguments : List Argument) → flat_map list_of (placed (map place_of_parameter parameters) arguments) ≡ []
sources [] arguments = refl
sources (p ∷ parameters) [] = refl
sources (p ∷ parameters) (a ∷ arguments) = sources parameters arguments

by_places : (o : Option (List ArgumentPlace)) (declared : Option Action) (arguments : List Argument) → flat_map list_of (placed (unwrap_or (wanted_by o declared) []) arguments) ≡ flat_map list_of (placed (unwrap_or o []) arguments)
by_places (Some places) declared arguments = refl
by_places None None arguments = refl
by_places None (Some a) arguments = sources a.parameters arguments

pub preserved_are : (ds : List Decl) → preserved_lists ds ≡ distinct (lists_by (all_invocations ds))
preserved_are ds =
    ap distinct
    (flat_flat list_of (placed_in ds) (all_invocations ds)
    ∙ same_flat (λ i. flat_map list_of (placed_in ds i)) lists_in (λ i. by_places (places_of i.callee) (action_of ds i.callee) i.arguments) (all_invocations ds))

-- names, each once, are those that were put

all_distinct : (before names : List Name) → with_all before names ≡ before ++ distinct_behind before names
all_distinct before [] = sym (append-nil before)
all_distinct before (x ∷ names) = by_test (has_name before x) (all_distinct before names) (all_distinct (before ++ x ∷ []) names) where
  by_test : (t : Bool)
      → with_all before names ≡ before ++ distinct_behind before names
      → with_all (before ++ x ∷ []) names ≡ (before ++ x ∷ []) ++ distinct_behind (before ++ x ∷ []) names
      → with_all (if t then before else before ++ x ∷ []) names ≡ before ++ (if t then distinct_behind before names else x ∷ distinct_behind (before ++ x ∷ []) names)
  by_test true same more = same
  by_test false same more = more ∙ append_assoc before (x ∷ []) (distinct_behind (before ++ x ∷ []) names)

pub listed_are : (ds : List Decl) (known : List Name) → known ≡ with_all [] (lists_by (all_invocations ds)) → known ≡ preserved_lists ds
listed_are ds known is = is ∙ all_distinct [] (lists_by (all_invocations ds)) ∙ sym (preserved_are ds)
