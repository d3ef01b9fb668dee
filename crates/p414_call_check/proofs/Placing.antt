-- What is wanted of arguments, and arguments as they are placed one by one.
use Rattle.std.proofs.Common.{◌≡◌, ⊎_elim, ℕ, ◌+◌, ◌<◌, ◌≤◌, Bool, true, false, ◌||◌, List, [], ◌∷◌, ◌++◌, length, get_or, drop, map, flat_map, slice_get, Option, Some, None, refl, sym, ap, ◌∙◌, append_assoc, append-nil, arith}
use Rattle.std.specs.Prelude.{option_and_then, option_map}
use Rattle.std.specs.List.{list_any}
use Rattle.std.proofs.lemmas.List.{length-map, drop_more, drop_all}
use Rattle.std.proofs.lemmas.Bool.{cases_lt}
use Rattle.std.proofs.lemmas.List.Folds.{list_any-append, flat_map-map}
use Rattle.std.proofs.lemmas.Grind.{flat_map-append}
use Rattle.std.proofs.lemmas.Option.{slice_get-map, slice_get-get_or, slice_get_past}
use Rattle.p414_syntax.specs.declared.actions.Action.{Action}
use Rattle.p414_syntax.specs.declared.syntax.Decl.{Decl}
use Rattle.p414_syntax.specs.declared.syntax.Decl.TheVariants as decl
use Rattle.p414_syntax.specs.declared.syntax.Sort.TheVariants as sort
use Rattle.p414_syntax.specs.declared.place.ArgumentPlace.{ArgumentPlace}
use Rattle.p414_syntax.specs.declared.place.ArgumentPlace.TheVariants as place
use Rattle.p414_syntax.specs.Names.{Name, declared_in, numbered, number_of}
use Rattle.p414_syntax.specs.Arguments.{Argument, Invocation, invocations_of, action_in, actions, action_of, place_of_parameter, PlacedArgument, placed, placed_in, placed_arguments}
use Rattle.p414_syntax.specs.Calls.{is_wrong_argument, is_wrong_call, has_wrong_call}
use Rattle.p414_calls.specs.declared.argument.Argument as kept
use Rattle.p414_calls.specs.Shown.{shown_argument}
use Rattle.p414_call_check.proofs.Writing.{any_joined}
use Rattle.p414_call_check.specs.internal.Placing.{declared_action, placed_with, is_wrong_placed, placed_in_action, is_wrong_action}

-- the parameters of an action

pub parameter_count : (ps : List Name) → length (map place_of_parameter ps) ≡ length ps
parameter_count ps = length-map ps place_of_parameter

pub parameter_place : (ps : List Name) (k : ℕ) → slice_get (map place_of_parameter ps) k ≡ option_map place_of_parameter (slice_get ps k)
parameter_place ps k = slice_get-map place_of_parameter ps k

pub argument_count : (xs : List kept.Argument) → length (map shown_argument xs) ≡ length xs
argument_count xs = length-map xs shown_argument

-- the action of a name is what is declared by it

abbrev some : Action → Option Action
some a = Some a

same_actions : (ds : List Decl) → map action_in (declared_in sort.Action ds) ≡ map some (actions ds)
same_actions [] = refl
same_actions (decl.Action x ∷ ds) = ap (λ found. Some x ∷ found) (same_actions ds)
same_actions (decl.FieldList x ∷ ds) = same_actions ds
same_actions (decl.HeaderType x ∷ ds) = same_actions ds
same_actions (decl.Header x ∷ ds) = same_actions ds
same_actions (decl.Metadata x ∷ ds) = same_actions ds
same_actions (decl.FieldListCalculation x ∷ ds) = same_actions ds
same_actions (decl.CalculatedField x ∷ ds) = same_actions ds
same_actions (decl.Parser x ∷ ds) = same_actions ds
same_actions (decl.Table x ∷ ds) = same_actions ds
same_actions (decl.Counter x ∷ ds) = same_actions ds
same_actions (decl.Meter x ∷ ds) = same_actions ds
same_actions (decl.Register x ∷ ds) = same_actions ds
same_actions (decl.Control x ∷ ds) = same_actions ds
same_actions (decl.LeftOut x ∷ ds) = same_actions ds

abbrev inner : Option (Option Action) → Option Action
inner None = None
inner (Some o) = o

through : (o : Option Decl) → option_and_then action_in o ≡ inner (option_map action_in o)
through None = refl
through (Some d) = refl

as_it_was : (o : Option Action) → inner (option_map some o) ≡ o
as_it_was None = refl
as_it_was (Some a) = refl

by_number : (ds : List Decl) (n : ℕ) → option_and_then action_in (numbered sort.Action ds n) ≡ slice_get (actions ds) n
by_number ds n =
    through (numbered sort.Action ds n)
    ∙ (ap inner (sym (slice_get-map action_in (declared_in sort.Action ds) n))
    ∙ (ap (λ (xs : List (Option Action)). inner (slice_get xs n)) (same_actions ds)
    ∙ (ap inner (slice_get-map some (actions ds) n) ∙ as_it_was (slice_get (actions ds) n))))

by_option : (ds : List Decl) (o : Option ℕ) → option_and_then action_in (option_and_then (numbered sort.Action ds) o) ≡ option_and_then (slice_get (actions ds)) o
by_option ds None = refl
by_option ds (Some n) = by_number ds n

pub action_is : (ds : List Decl) (name : Name) → declared_action ds name ≡ action_of ds name
action_is ds name = by_option ds (number_of sort.Action ds name)

-- an argument is placed

within : (ps : List ArgumentPlace) (i : ℕ) (a : Argument) (rest : List Argument) → i < length ps → placed (drop i ps) (a ∷ rest) ≡ placed_with (slice_get ps i) a ++ placed (drop (i + 1) ps) rest
within ps i a rest h =
    ap (λ (l : List ArgumentPlace). placed l (a ∷ rest)) (drop_more ps i place.Source h)
    ∙ sym (ap (λ (o : Option ArgumentPlace). placed_with o a ++ placed (drop (i + 1) ps) rest) (slice_get-get_or ps i place.Source h))

beyond : (ps : List ArgumentPlace) (i : ℕ) (a : Argument) (rest : List Argument) → length ps ≤ i → placed (drop i ps) (a ∷ rest) ≡ placed_with (slice_get ps i) a ++ placed (drop (i + 1) ps) rest
beyond ps i a rest h =
    ap (λ (l : List ArgumentPlace). placed l (a ∷ rest)) (drop_all i ps h)
    ∙ (sym (ap (λ (l : List ArgumentPlace). placed l rest) (drop_all (i + 1) ps (omega arith)))
    ∙ sym (ap (λ (o : Option ArgumentPlace). placed_with o a ++ placed (drop (i + 1) ps) rest) (slice_get_past ps i h)))

first_placed : (ps : List ArgumentPlace) (i : ℕ) (a : Argument) (rest : List Argument) → placed (drop i ps) (a ∷ rest) ≡ placed_with (slice_get ps i) a ++ placed (drop (i + 1) ps) rest
first_placed ps i a rest = ⊎_elim (within ps i a rest) (beyond ps i a rest) (cases_lt i (length ps))

-- the arguments from a place on: the one there, and those behind it
next_placed : (ps : List ArgumentPlace) (xs : List kept.Argument) (i : ℕ) (d : kept.Argument) → i < length xs
    → placed (drop i ps) (map shown_argument (drop i xs)) ≡ placed_with (slice_get ps i) (shown_argument (get_or xs i d)) ++ placed (drop (i + 1) ps) (map shown_argument (drop (i + 1) xs))
next_placed ps xs i d h =
    ap (λ (l : List kept.Argument). placed (drop i ps) (map shown_argument l)) (drop_more xs i d h)
    ∙ first_placed ps i (shown_argument (get_or xs i d)) (map shown_argument (drop (i + 1) xs))

nothing_placed : (ps : List ArgumentPlace) → placed ps [] ≡ []
nothing_placed [] = refl
nothing_placed (p ∷ ps) = refl

none_placed : (ps : List ArgumentPlace) (xs : List kept.Argument) (i : ℕ) → length xs ≤ i → placed (drop i ps) (map shown_argument (drop i xs)) ≡ []
none_placed ps xs i h =
    ap (λ (l : List kept.Argument). placed (drop i ps) (map shown_argument l)) (drop_all i xs h) ∙ nothing_placed (drop i ps)

placed_by : (old : List PlacedArgument) (ps : List ArgumentPlace) (xs : List kept.Argument) (i : ℕ) (x : kept.Argument) (o : Option ArgumentPlace) (new : List PlacedArgument) → x ≡ get_or xs i x → o ≡ slice_get ps i
    → new ≡ old ++ placed_with o (shown_argument x) → new ≡ old ++ placed_with (slice_get ps i) (shown_argument (get_or xs i x))
placed_by old ps xs i x o new here at is =
    is
    ∙ (ap (λ (p : Option ArgumentPlace). old ++ placed_with p (shown_argument x)) at
    ∙ ap (λ (y : kept.Argument). old ++ placed_with (slice_get ps i) (shown_argument y)) here)

pub placed_now : (ps : List ArgumentPlace) (xs : List kept.Argument) (i : ℕ) (x : kept.Argument) (o : Option ArgumentPlace) (old new whole : List PlacedArgument) → i < length xs → x ≡ get_or xs i x → o ≡ slice_get ps i
    → new ≡ old ++ placed_with o (shown_argument x) → old ++ placed (drop i ps) (map shown_argument (drop i xs)) ≡ whole
    → new ++ placed (drop (i + 1) ps) (map shown_argument (drop (i + 1) xs)) ≡ whole
placed_now ps xs i x o old new whole h here at is same =
    ap (λ l. l ++ placed (drop (i + 1) ps) (map shown_argument (drop (i + 1) xs))) (placed_by old ps xs i x o new here at is)
    ∙ (append_assoc old (placed_with (slice_get ps i) (shown_argument (get_or xs i x))) (placed (drop (i + 1) ps) (map shown_argument (drop (i + 1) xs)))
    ∙ (ap (λ l. old ++ l) (sym (next_placed ps xs i x h)) ∙ same))

pub placed_all : (ps : List ArgumentPlace) (xs : List kept.Argument) (i : ℕ) (new whole : List PlacedArgument) → length xs ≤ i → new ++ placed (drop i ps) (map shown_argument (drop i xs)) ≡ whole → new ≡ whole
placed_all ps xs i new whole h same =
    sym (append-nil new) ∙ (ap (λ (l : List PlacedArgument). new ++ l) (sym (none_placed ps xs i h)) ∙ same)

one_wrong : (ds : List Decl) (o : Option ArgumentPlace) (a : Argument) → list_any (is_wrong_argument ds) (placed_with o a) ≡ is_wrong_placed ds o a
one_wrong ds None a = refl
one_wrong ds (Some p) a = or_false (is_wrong_placed ds (Some p) a) where
  or_false : (b : Bool) → (b || false) ≡ b
  or_false true = refl
  or_false false = refl

wrong_by : (ds : List Decl) (ps : List ArgumentPlace) (xs : List kept.Argument) (i : ℕ) (x : kept.Argument) (o : Option ArgumentPlace) → x ≡ get_or xs i x → o ≡ slice_get ps i → is_wrong_placed ds (slice_get ps i) (shown_argument (get_or xs i x)) ≡ is_wrong_placed ds o (shown_argument x)
wrong_by ds ps xs i x o here at =
    sym
    (ap (λ (p : Option ArgumentPlace). is_wrong_placed ds p (shown_argument x)) at
    ∙ ap (λ (y : kept.Argument). is_wrong_placed ds (slice_get ps i) (shown_argument y)) here)

any_placed : (ds : List Decl) (ps : List ArgumentPlace) (xs : List kept.Argument) (i : ℕ) (x : kept.Argument) (o : Option ArgumentPlace) → i < length xs → x ≡ get_or xs i x → o ≡ slice_get ps i
    → list_any (is_wrong_argument ds) (placed (drop i ps) (map shown_argument (drop i xs))) ≡ (is_wrong_placed ds o (shown_argument x) || list_any (is_wrong_argument ds) (placed (drop (i + 1) ps) (map shown_argument (drop (i + 1) xs))))
any_placed ds ps xs i x o h here at =
    ap (list_any (is_wrong_argument ds)) (next_placed ps xs i x h)
    ∙ (list_any-append (is_wrong_argument ds) (placed_with (slice_get ps i) (shown_argument (get_or xs i x))) (placed (drop (i + 1) ps) (map shown_argument (drop (i + 1) xs)))
    ∙ ap (λ b. b || list_any (is_wrong_argument ds) (placed (drop (i + 1) ps) (map shown_argument (drop (i + 1) xs)))) (one_wrong ds (slice_get ps i) (shown_argument (get_or xs i x)) ∙ wrong_by ds ps xs i x o here at))

-- one argument is judged, and is wrong or isn't

pub is_wrong : (ds : List Decl) (ps : List ArgumentPlace) (xs : List kept.Argument) (i : ℕ) (x : kept.Argument) (o : Option ArgumentPlace) (whole wrong : Bool) → i < length xs → x ≡ get_or xs i x → o ≡ slice_get ps i
    → wrong ≡ is_wrong_placed ds o (shown_argument x) → wrong ≡ true → list_any (is_wrong_argument ds) (placed (drop i ps) (map shown_argument (drop i xs))) ≡ whole → true ≡ whole
is_wrong ds ps xs i x o whole wrong h here at is found same =
    ap (λ b. b || list_any (is_wrong_argument ds) (placed (drop (i + 1) ps) (map shown_argument (drop (i + 1) xs)))) (sym found ∙ is)
    ∙ (sym (any_placed ds ps xs i x o h here at) ∙ same)

pub is_right : (ds : List Decl) (ps : List ArgumentPlace) (xs : List kept.Argument) (i : ℕ) (x : kept.Argument) (o : Option ArgumentPlace) (whole wrong : Bool) → i < length xs → x ≡ get_or xs i x → o ≡ slice_get ps i
    → wrong ≡ is_wrong_placed ds o (shown_argument x) → wrong ≡ false → list_any (is_wrong_argument ds) (placed (drop i ps) (map shown_argument (drop i xs))) ≡ whole
    → list_any (is_wrong_argument ds) (placed (drop (i + 1) ps) (map shown_argument (drop (i + 1) xs))) ≡ whole
is_right ds ps xs i x o whole wrong h here at is found same =
    ap (λ b. b || list_any (is_wrong_argument ds) (placed (drop (i + 1) ps) (map shown_argument (drop (i + 1) xs)))) (sym found ∙ is)
    ∙ (sym (any_placed ds ps xs i x o h here at) ∙ same)

pub none_wrong : (ds : List Decl) (ps : List ArgumentPlace) (xs : List kept.Argument) (i : ℕ) (whole : Bool) → length xs ≤ i → list_any (is_wrong_argument ds) (placed (drop i ps) (map shown_argument (drop i xs))) ≡ whole → false ≡ whole
none_wrong ds ps xs i whole h same = sym (ap (list_any (is_wrong_argument ds)) (none_placed ps xs i h)) ∙ same

-- the calls of all actions are those that stand in them

any_map : {X Y : Type 0} (p : Y → Bool) (f : X → Y) (xs : List X) → list_any p (map f xs) ≡ list_any (λ x. p (f x)) xs
any_map p f [] = refl
any_map p f (x ∷ xs) = ap (λ b. p (f x) || b) (any_map p f xs)

pub any_call : (ds : List Decl) (calls : List (List Invocation)) → calls ≡ map invocations_of (actions ds) → list_any (is_wrong_action ds) calls ≡ has_wrong_call ds
any_call ds calls is =
    ap (list_any (is_wrong_action ds)) is
    ∙ (any_map (is_wrong_action ds) invocations_of (actions ds) ∙ sym (any_joined (is_wrong_call ds) invocations_of (actions ds)))

pub flat_joined : {X Y Z : Type 0} (g : Y → List Z) (f : X → List Y) (xs : List X) → flat_map g (flat_map f xs) ≡ flat_map (λ x. flat_map g (f x)) xs
flat_joined g f [] = refl
flat_joined g f (x ∷ xs) = flat_map-append g (f x) (flat_map f xs) ∙ ap (λ l. flat_map g (f x) ++ l) (flat_joined g f xs)

pub all_placed : (ds : List Decl) (calls : List (List Invocation)) → calls ≡ map invocations_of (actions ds) → flat_map (placed_in_action ds) calls ≡ placed_arguments ds
all_placed ds calls is =
    ap (flat_map (placed_in_action ds)) is
    ∙ (flat_map-map (placed_in_action ds) invocations_of (actions ds) ∙ sym (flat_joined (placed_in ds) invocations_of (actions ds)))
