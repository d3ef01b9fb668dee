-- The lists that calls preserve, and those that hashes are over, by what calls name.
use Rattle.std.proofs.Common.{◌≡◌, ℕ, Bool, not, ◌&&◌, List, [], ◌∷◌, ◌++◌, map, flat_map, Option, Some, None, unwrap_or, refl, sym, ap, ◌∙◌, append-nil}
use Rattle.std.specs.List.{list_any}
use Rattle.std.proofs.lemmas.Grind.{flat_map-append}
use Rattle.p414_syntax.specs.declared.actions.Action.{Action}
use Rattle.p414_syntax.specs.declared.syntax.Decl.{Decl}
use Rattle.p414_syntax.specs.declared.place.ArgumentPlace.{ArgumentPlace}
use Rattle.p414_syntax.specs.declared.place.ArgumentPlace.TheVariants as place
use Rattle.p414_syntax.specs.Names.{Name}
use Rattle.p414_syntax.specs.Primitives.{places_of}
use Rattle.p414_syntax.specs.Arguments.{Argument, number_argument, field_argument, parameter_argument, name_argument, Invocation, PlacedArgument, placed_argument, placed, placed_in, place_of_parameter, wanted_by, action_of, actions, invocations_of, all_invocations}
use Rattle.p414_syntax.specs.Actions.{lists_at, lists_hashed_at, hashed_lists}
use Rattle.p414_syntax.specs.Distinct.{distinct}
use Rattle.p414_syntax.specs.Preserved.{list_of, preserved_lists}
use Rattle.p414_syntax.specs.Payloads.{all_hashed}
use Rattle.p414_preserved_check.specs.declared.named.Wanted.{Wanted}
use Rattle.p414_preserved_check.specs.declared.named.Wanted.TheVariants.{List as AList, Calculation}
use Rattle.p414_preserved_check.specs.internal.Marks.{is_missing, is_marked_name, joins_marked}
use Rattle.p414_preserved_check.specs.internal.Named.{calculation_at, named_as, named_in, named_by, inputs_of, inputs_marked}
use Rattle.p414_preserved_check.proofs.Searching.{any_flat, distinct_any}

pub flat_flat : {X Y Z : Type 0} (f : Y → List Z) (g : X → List Y) (xs : List X) → flat_map f (flat_map g xs) ≡ flat_map (λ x. flat_map f (g x)) xs
flat_flat f g [] = refl
flat_flat f g (x ∷ xs) = flat_map-append f (g x) (flat_map g xs) ∙ ap (λ l. flat_map f (g x) ++ l) (flat_flat f g xs)

flat_mapped : {X Y Z : Type 0} (f : Y → List Z) (g : X → Y) (xs : List X) → flat_map f (map g xs) ≡ flat_map (λ x. f (g x)) xs
flat_mapped f g [] = refl
flat_mapped f g (x ∷ xs) = ap (λ l. f (g x) ++ l) (flat_mapped f g xs)

same_flat : {X B : Type 0} (f g : X → List B) → ((x : X) → f x ≡ g x) → (xs : List X) → flat_map f xs ≡ flat_map g xs
same_flat f g same xs = λ i. flat_map (λ x. same x i) xs

-- of the arguments of an action nothing is named

module _ (f : PlacedArgument → List Name) (none : (a : Argument) → f (placed_argument place.Source a) ≡ []) where
  sources : (parameters : List Name) (arguments : List Argument) → flat_map f (placed (map place_of_parameter parameters) arguments) ≡ []
  sources [] arguments = refl
  sources (p ∷ parameters) [] = refl
  sources (p ∷ parameters) (a ∷ arguments) = ap (λ l. l ++ flat_map f (placed (map place_of_parameter parameters) arguments)) (none a) ∙ sources parameters arguments

  by_places : (o : Option (List ArgumentPlace)) (declared : Option Action) (arguments : List Argument) → flat_map f (placed (unwrap_or (wanted_by o declared) []) arguments) ≡ flat_map f (placed (unwrap_or o []) arguments)
  by_places (Some places) declared arguments = refl
  by_places None None arguments = refl
  by_places None (Some a) arguments = sources a.parameters arguments

  pub by_primitive : (ds : List Decl) (i : Invocation) → flat_map f (placed_in ds i) ≡ flat_map f (placed (unwrap_or (places_of i.callee) []) i.arguments)
  by_primitive ds i = by_places (places_of i.callee) (action_of ds i.callee) i.arguments

-- preserved lists

pub preserved_are : (ds : List Decl) → preserved_lists ds ≡ distinct (named_by AList (all_invocations ds))
preserved_are ds =
    ap distinct
    (flat_flat list_of (placed_in ds) (all_invocations ds)
    ∙ same_flat (λ i. flat_map list_of (placed_in ds i)) (named_in AList) (λ i. by_primitive list_of (λ a. refl) ds i) (all_invocations ds))

-- hashed lists

hashed_at : (ds : List Decl) (p : ArgumentPlace) (a : Argument) → lists_at ds p a ≡ flat_map (inputs_of ds) (calculation_at p a)
hashed_at ds place.Calculation (name_argument i) = sym (append-nil (inputs_of ds i.name))
hashed_at ds place.Calculation (number_argument n) = refl
hashed_at ds place.Calculation (field_argument r) = refl
hashed_at ds place.Calculation (parameter_argument n) = refl
hashed_at ds place.Target a = refl
hashed_at ds place.Source a = refl
hashed_at ds place.Unsigned a = refl
hashed_at ds place.Header a = refl
hashed_at ds place.Stack a = refl
hashed_at ds place.Elements a = refl
hashed_at ds place.Counter a = refl
hashed_at ds place.Register a = refl
hashed_at ds place.Meter a = refl
hashed_at ds place.List a = refl

hashed_in : (ds : List Decl) (i : Invocation) → hashed_lists ds i ≡ flat_map (inputs_of ds) (named_in Calculation i)
hashed_in ds i =
    by_primitive (lists_hashed_at ds) (λ a. refl) ds i
    ∙ (same_flat (lists_hashed_at ds) (λ a. flat_map (inputs_of ds) (named_as Calculation a)) (λ a. hashed_at ds a.wanted a.argument) (placed (unwrap_or (places_of i.callee) []) i.arguments)
    ∙ sym (flat_flat (inputs_of ds) (named_as Calculation) (placed (unwrap_or (places_of i.callee) []) i.arguments)))

hashed_are : (ds : List Decl) → all_hashed ds ≡ flat_map (inputs_of ds) (named_by Calculation (all_invocations ds))
hashed_are ds =
    same_flat (hashed_lists ds) (λ i. flat_map (inputs_of ds) (named_in Calculation i)) (hashed_in ds) (all_invocations ds)
    ∙ sym (flat_flat (inputs_of ds) (named_in Calculation) (all_invocations ds))

any_input : (ds : List Decl) (q : Name → Bool) → list_any q (all_hashed ds) ≡ list_any (λ n. list_any q (inputs_of ds n)) (distinct (named_by Calculation (all_invocations ds)))
any_input ds q =
    ap (list_any q) (hashed_are ds)
    ∙ (any_flat q (inputs_of ds) (named_by Calculation (all_invocations ds))
    ∙ sym (distinct_any (λ n. list_any q (inputs_of ds n)) (named_by Calculation (all_invocations ds))))

pub hashed_marked : (ds : List Decl) (marks : List ℕ) → inputs_marked ds marks (distinct (named_by Calculation (all_invocations ds))) ≡ joins_marked ds marks (all_hashed ds)
hashed_marked ds marks =
    λ i. not (sym (any_input ds (is_missing ds)) i) && sym (any_input ds (is_marked_name ds marks)) i

-- the calls of all actions

pub all_named : (ds : List Decl) (wanted : Wanted) → flat_map (named_by wanted) (map invocations_of (actions ds)) ≡ named_by wanted (all_invocations ds)
all_named ds wanted = flat_mapped (named_by wanted) invocations_of (actions ds) ∙ sym (flat_flat (named_in wanted) invocations_of (actions ds))
