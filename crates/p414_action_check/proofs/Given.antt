-- What is given for a parameter of an action: never a name, where no call is wrong as it is written and no action has the
-- name of a primitive.
use Rattle.std.proofs.Common.{◌≡◌, ℕ, suc, zero, ◌≤◌, Bool, true, false, ◌||◌, ◌&&◌, not, is_some, is_none, List, [], ◌∷◌, length, get_or, map, slice_get, inl, inr, Option, Some, None, option_map, refl, sym, ap, ◌∙◌, arith}
use Rattle.std.specs.Prelude.{unwrap_or}
use Rattle.std.specs.List.{list_any}
use Rattle.std.specs.Str.{bytes_eq}
use Rattle.std.proofs.lemmas.Bool.{ltb-false}
use Rattle.std.proofs.lemmas.List.{length-map}
use Rattle.std.proofs.lemmas.List.Quantifiers.{position-Some}
use Rattle.std.proofs.lemmas.Slice.Eq.{bytes_eq-Decides}
use Rattle.std.specs.Option.{option_map_or}
use Rattle.p414_syntax.specs.declared.actions.Action.{Action}
use Rattle.p414_syntax.specs.declared.syntax.Decl.{Decl}
use Rattle.p414_syntax.specs.declared.syntax.Sort.TheVariants as sort
use Rattle.p414_syntax.specs.Names.{Name, names_in}
use Rattle.p414_syntax.specs.Primitives.{places_of, is_any_primitive}
use Rattle.p414_syntax.specs.Twice.{is_reserved, repeats_in, declares_twice, sorts}
use Rattle.p414_syntax.specs.Arguments.{Argument, number_argument, field_argument, parameter_argument, name_argument, Invocation, invocations_of, all_invocations, actions, action_number, action_of, place_of_parameter, parameter_places, wanted_by, wanted_of, placed}
use Rattle.p414_syntax.specs.ActionExpansion.{given_for, invoked_with}
use Rattle.p414_syntax.specs.Calls.{is_wrong_argument, takes_others, is_wrong_call, has_wrong_call}
use Rattle.p414_action_check.specs.internal.Counted.{is_named, gives_name}
use Rattle.p414_action_check.proofs.Members.{none_of, none_in, in_flat, in_got, in_at}
use Rattle.p414_action_check.proofs.Numbers.{action_there}

-- parts of tests

pub or_first : (a b : Bool) → (a || b) ≡ false → a ≡ false
or_first true b e = e
or_first false b e = refl

pub or_second : (a b : Bool) → (a || b) ≡ false → b ≡ false
or_second true b e = absurd (cc e)
or_second false b e = e

-- sources take no name
names_taken : (ds : List Decl) (parameters : List Name) (given : List Argument) → length given ≤ length parameters → list_any (is_wrong_argument ds) (placed (map place_of_parameter parameters) given) ≡ false → list_any is_named given ≡ false
names_taken ds parameters [] e h = refl
names_taken ds [] (g ∷ given) e h = absurd (omega arith)
names_taken ds (p ∷ ps) (number_argument n ∷ given) e h = names_taken ds ps given (omega arith) h
names_taken ds (p ∷ ps) (field_argument r ∷ given) e h = names_taken ds ps given (omega arith) h
names_taken ds (p ∷ ps) (parameter_argument n ∷ given) e h = names_taken ds ps given (omega arith) h
names_taken ds (p ∷ ps) (name_argument i ∷ given) e h = absurd (cc (or_first (not (is_none i.index && false)) (list_any (is_wrong_argument ds) (placed (map place_of_parameter ps) given)) h, source_name (is_none i.index))) where
  source_name : (b : Bool) → not (b && false) ≡ true
  source_name true = refl
  source_name false = refl

-- an action doesn't have the name of a primitive

none_there : {X : Type 0} (o : Option X) → is_some o ≡ false → o ≡ None
none_there None e = refl
none_there (Some x) e = absurd (cc e)

pub no_primitive : (ds : List Decl) (name : Name) (n : ℕ) → declares_twice ds ≡ false → action_number ds name ≡ Some n → is_any_primitive name ≡ false
no_primitive ds name n once e =
    let found = position-Some (bytes_eq name) (names_in sort.Action ds) n [] e in
    let same : name ≡ get_or (names_in sort.Action ds) n [] = (bytes_eq-Decides name (get_or (names_in sort.Action ds) n [])).0 found.1 in
    let none : repeats_in ds sort.Action ≡ false = none_of (repeats_in ds) sorts sort.Action (or_first _ _ once) (inr (inr (inr (inl refl)))) in
    ap is_any_primitive same
    ∙ none_of (is_reserved sort.Action) (names_in sort.Action ds) (get_or (names_in sort.Action ds) n []) (or_first _ _ none) (in_at (names_in sort.Action ds) n [] found.0)

pub no_places : (ds : List Decl) (name : Name) (n : ℕ) → declares_twice ds ≡ false → action_number ds name ≡ Some n → places_of name ≡ None
no_places ds name n once e = none_there (places_of name) (or_first _ _ (no_primitive ds name n once e))

-- what is wanted of a call of an action
pub wanted_there : (ds : List Decl) (name : Name) (n : ℕ) → declares_twice ds ≡ false → action_number ds name ≡ Some n → (a : Action) × (slice_get (actions ds) n ≡ Some a) × (wanted_of ds name ≡ Some (parameter_places a))
wanted_there ds name n once e =
    let a = action_there ds name n e in
    (a.0, a.1, ap (λ o. wanted_by o (action_of ds name)) (no_places ds name n once e) ∙ ap (option_map parameter_places) a.2)

-- what is given for the parameters of an action has no name
no_names : (ds : List Decl) (i : Invocation) (n : ℕ) → declares_twice ds ≡ false → is_wrong_call ds i ≡ false → action_number ds i.callee ≡ Some n → list_any is_named i.arguments ≡ false
no_names ds i n once right e =
    let a = wanted_there ds i.callee n once e in
    let asked : takes_others ds i (parameter_places a.0) ≡ false = ap (λ o. option_map_or (takes_others ds i) o false) (sym a.2) ∙ or_first _ _ right in
    let count : length i.arguments ≤ length (parameter_places a.0) = ltb-false _ _ (or_first _ _ (or_first _ _ asked)) in
    let same : length (parameter_places a.0) ≡ length a.0.parameters = length-map a.0.parameters place_of_parameter in
    names_taken ds a.0.parameters i.arguments (omega arith) (or_second _ _ asked)

gives_none : (ds : List Decl) (i : Invocation) (o : Option ℕ) → declares_twice ds ≡ false → is_wrong_call ds i ≡ false → action_number ds i.callee ≡ o → (is_some o && list_any is_named i.arguments) ≡ false
gives_none ds i None once right e = refl
gives_none ds i (Some n) once right e = no_names ds i n once right e

-- each call of an action is given no name
pub record GivesValues (ds : List Decl) : Type 0 where
  pub within : (n : ℕ) (a : Action) → slice_get (actions ds) n ≡ Some a → list_any (gives_name ds) (invocations_of a) ≡ false

pub gives_values : (ds : List Decl) → declares_twice ds ≡ false → has_wrong_call ds ≡ false → GivesValues ds
gives_values ds once right =
    record {
      within = λ n a there. none_in (gives_name ds) (invocations_of a) (λ i m. gives_none ds i (action_number ds i.callee) once
          (none_of (is_wrong_call ds) (all_invocations ds) i right (in_flat invocations_of (actions ds) a i (in_got (actions ds) n a there) m)) refl);
    }

-- calls with other arguments in the places of parameters

got_named : (given : List Argument) (n k : ℕ) → list_any is_named given ≡ false → is_named (unwrap_or (slice_get given n) (parameter_argument k)) ≡ false
got_named [] n k e = refl
got_named (g ∷ given) zero k e = or_first _ _ e
got_named (g ∷ given) (suc n) k e = got_named given n k (or_second _ _ e)

pub named_same : (given : List Argument) (x : Argument) → list_any is_named given ≡ false → is_named (given_for given x) ≡ is_named x
named_same given (number_argument n) e = refl
named_same given (field_argument r) e = refl
named_same given (parameter_argument n) e = got_named given n n e
named_same given (name_argument i) e = refl

names_same : (given xs : List Argument) → list_any is_named given ≡ false → list_any is_named (map (given_for given) xs) ≡ list_any is_named xs
names_same given [] e = refl
names_same given (x ∷ xs) e = ap (λ b. b || list_any is_named (map (given_for given) xs)) (named_same given x e) ∙ ap (λ b. is_named x || b) (names_same given xs e)

pub gives_same : (ds : List Decl) (given : List Argument) (calls : List Invocation) → list_any is_named given ≡ false → list_any (gives_name ds) (map (invoked_with given) calls) ≡ list_any (gives_name ds) calls
gives_same ds given [] e = refl
gives_same ds given (i ∷ calls) e =
    ap (λ b. is_some (action_number ds i.callee) && b || list_any (gives_name ds) (map (invoked_with given) calls)) (names_same given i.arguments e)
    ∙ ap (λ b. gives_name ds i || b) (gives_same ds given calls e)
