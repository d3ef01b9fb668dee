-- The arguments of an expanded primitive in places where no number is read are those of the text (C27), and each call has the
-- arguments that are wanted (C13).
use Rattle.std.proofs.Common.{◌≡◌, inl, inr, ℕ, zero, suc, ◌+◌, ◌<◌, ◌≤◌, Bool, true, false, cond, ◌||◌, Option, Some, None, List, [], ◌∷◌, length, get_or, refl, sym, ap, ◌∙◌, subst, arith}
use Rattle.std.specs.Prelude.{is_some, nat_lt, unwrap_or, option_map, option_and_then, slice_get}
use Rattle.std.specs.List.{list_any, AllByRecursion, AllZip}
use Rattle.std.specs.Option.{option_map_or}
use Rattle.std.specs.Str.{bytes_eq}
use Rattle.std.proofs.lemmas.Bool.{ltb-false, ltb-true}
use Rattle.std.proofs.lemmas.List.{length-map}
use Rattle.p414_syntax.specs.declared.actions.Action.{Action}
use Rattle.p414_syntax.specs.declared.syntax.Decl.{Decl}
use Rattle.p414_syntax.specs.declared.syntax.Sort.TheVariants as sort
use Rattle.p414_syntax.specs.declared.place.ArgumentPlace.{ArgumentPlace}
use Rattle.p414_syntax.specs.Names.{Name, has_name, is_declared}
use Rattle.p414_syntax.specs.Primitives.{places_of, is_primitive, is_any_primitive, left_out_primitives}
use Rattle.p414_syntax.specs.Arguments.{Argument, number_argument, field_argument, parameter_argument, name_argument, Invocation, PlacedArgument, action_number, action_of, actions, all_invocations, placed_argument, placed, placed_in, placed_arguments, place_of_parameter, parameter_places, wanted_by, wanted_of}
use Rattle.p414_syntax.specs.ActionExpansion.{ActionExpands}
use Rattle.p414_syntax.specs.Calls.{with_optional_last, optional_count, is_wrong_count, takes, is_wrong_argument, takes_others, copies_other_type, is_wrong_call, has_wrong_call, ExpandsToWrongCall}
use Rattle.p414_syntax.specs.Parameters.{is_parameter, is_misused_parameter, has_misused_parameter}
use Rattle.p414_syntax.specs.Twice.{declares_twice}
use Rattle.p414_sem.specs.Operations.{argument_at}
use Rattle.lower_laws_states.specs.Expansions.{Has, StandsFor, IsOfText, IsWritten}
use Rattle.lower_laws_states.proofs.Members.{neither, of_not, not_true, none_passes, each_has, has_each, has_joined, same_name}
use Rattle.lower_laws_states.proofs.Declared.{no_primitive}
use Rattle.lower_laws_states.proofs.Expansion.{CountsFit}

-- places

one_written : (ds : List Decl) (p : ArgumentPlace) (a b : Argument) → StandsFor a b → is_misused_parameter (placed_argument p a) ≡ false → Has (placed_arguments ds) (placed_argument p a) → IsWritten ds (placed_argument p b)
one_written ds p (parameter_argument n) b stands right there unread = absurd (cc (right, unread))
one_written ds p (number_argument n) b stands right there unread = subst (λ (c : Argument). Has (placed_arguments ds) (placed_argument p c) × (is_parameter c ≡ false)) (sym stands) (there, refl)
one_written ds p (field_argument r) b stands right there unread = subst (λ (c : Argument). Has (placed_arguments ds) (placed_argument p c) × (is_parameter c ≡ false)) (sym stands) (there, refl)
one_written ds p (name_argument i) b stands right there unread = subst (λ (c : Argument). Has (placed_arguments ds) (placed_argument p c) × (is_parameter c ≡ false)) (sym stands) (there, refl)

all_written : (ds : List Decl) → has_misused_parameter ds ≡ false → (ps : List ArgumentPlace) (xs ys : List Argument) → AllZip StandsFor xs ys → ((a : PlacedArgument) → Has (placed ps xs) a → Has (placed_arguments ds) a) → AllByRecursion (IsWritten ds) (placed ps ys)
all_written ds right [] xs ys stands there = tt
all_written ds right (p ∷ ps) [] [] stands there = tt
all_written ds right (p ∷ ps) [] (y ∷ ys) stands there = absurd stands
all_written ds right (p ∷ ps) (x ∷ xs) [] stands there = absurd stands
all_written ds right (p ∷ ps) (x ∷ xs) (y ∷ ys) stands there =
    let here = there (placed_argument p x) (inl refl) in (
      one_written ds p x y stands.0 (none_passes is_misused_parameter (placed_arguments ds) (placed_argument p x) right here) here,
      all_written ds right ps xs ys stands.1 (λ a h. there a (inr h)),
    )

-- an expanded primitive is written in the text where no number is read
pub places_written : (ds : List Decl) → has_misused_parameter ds ≡ false → (i : Invocation) → IsOfText ds i → AllByRecursion (IsWritten ds) (placed_in ds i)
places_written ds right i is =
    all_written ds right (unwrap_or (wanted_of ds i.callee) []) is.text.arguments i.arguments is.arguments (λ a h.
    has_joined (placed_in ds) (all_invocations ds) is.text a is.stands (subst (λ name. Has (placed (unwrap_or (wanted_of ds name) []) is.text.arguments) a) is.callee h))

-- what is wanted

pub wanted_so : (ds : List Decl) (i : Invocation) (name : Name) (ps : List ArgumentPlace) → bytes_eq i.callee name ≡ true → places_of name ≡ Some ps → wanted_of ds i.callee ≡ Some ps
wanted_so ds i name ps is places = ap (wanted_of ds) (same_name i.callee name is) ∙ ap (λ (o : Option (List ArgumentPlace)). wanted_by o (action_of ds name)) places

pub written_so : (ds : List Decl) → has_misused_parameter ds ≡ false → (i : Invocation) → IsOfText ds i → (ps : List ArgumentPlace) → wanted_of ds i.callee ≡ Some ps → AllByRecursion (IsWritten ds) (placed ps i.arguments)
written_so ds right i text ps e = subst (λ (o : Option (List ArgumentPlace)). AllByRecursion (IsWritten ds) (placed (unwrap_or o []) i.arguments)) e (places_written ds right i text)

pub record IsTaken (ds : List Decl) (i : Invocation) (ps : List ArgumentPlace) : Type 0 where
  pub count : length ps ≤ length i.arguments + optional_count i.callee
  pub most : length i.arguments ≤ length ps
  pub each : AllByRecursion (λ a. takes ds a.wanted a.argument ≡ true) (placed ps i.arguments)

pub taken : (ds : List Decl) (i : Invocation) (ps : List ArgumentPlace) → wanted_of ds i.callee ≡ Some ps → is_wrong_call ds i ≡ false → IsTaken ds i ps
taken ds i ps wanted right =
    let call : takes_others ds i ps ≡ false = sym (ap (λ (o : Option (List ArgumentPlace)). option_map_or (takes_others ds i) o false) wanted) ∙ (neither _ (copies_other_type ds i) right).0 in
    let parts = neither (is_wrong_count i.callee (length ps) (length i.arguments)) _ call in
    let counts = neither (nat_lt (length ps) (length i.arguments)) _ parts.0 in
    record {
      count = ltb-false _ _ counts.1;
      most = ltb-false _ _ counts.0;
      each = each_has _ (placed ps i.arguments) (λ a h. of_not (takes ds a.wanted a.argument) (none_passes (is_wrong_argument ds) (placed ps i.arguments) a parts.1 h));
    }

-- an argument at a place: it is taken there, and where no number is read it is one of the text
pub record IsJudged (ds : List Decl) (p : ArgumentPlace) (a : Argument) : Type 0 where
  pub takes_it : takes ds p a ≡ true
  pub written : IsWritten ds (placed_argument p a)

at_place : (ds : List Decl) (ps : List ArgumentPlace) (xs : List Argument) (k : ℕ) (p : ArgumentPlace) (d : Argument) → AllByRecursion (λ a. takes ds a.wanted a.argument ≡ true) (placed ps xs) → AllByRecursion (IsWritten ds) (placed ps xs) → slice_get ps k ≡ Some p → k < length xs → IsJudged ds p (get_or xs k d)
at_place ds [] xs k p d each written e lt = absurd (cc e)
at_place ds (q ∷ ps) [] k p d each written e lt = absurd (omega (arith, lt))
at_place ds (q ∷ ps) (x ∷ xs) zero p d each written e lt = subst (λ r. IsJudged ds r x) (cc e) (record { takes_it = each.0; written = written.0 })
at_place ds (q ∷ ps) (x ∷ xs) (suc k) p d each written e lt = at_place ds ps xs k p d each.1 written.1 e (omega (arith, lt))

-- Of an expanded primitive with this name, which wants this at a place that isn't left out.
pub judged : (ds : List Decl) → has_misused_parameter ds ≡ false → (i : Invocation) → IsOfText ds i → is_wrong_call ds i ≡ false → (name : Name) (ps : List ArgumentPlace) (k : ℕ) (p : ArgumentPlace) → places_of name ≡ Some ps → slice_get ps k ≡ Some p → nat_lt (k + optional_count name) (length ps) ≡ true → bytes_eq i.callee name ≡ true → IsJudged ds p (argument_at i k)
judged ds right i text call name ps k p places at stands is =
    let wanted = wanted_so ds i name ps is places in
    let all = taken ds i ps wanted call in
    at_place ds ps i.arguments k p _ all.each (written_so ds right i text ps wanted) at (omega (arith, all.count, ltb-true _ _ stands, ap optional_count (same_name i.callee name is)))

pub expanded_is_right : (ds : List Decl) → (ExpandsToWrongCall ds → ⊥) → (n : ℕ) (all : List Invocation) → ActionExpands ds n all → list_any (is_wrong_call ds) all ≡ false
expanded_is_right ds right n all expands = not_true (list_any (is_wrong_call ds) all) (λ wrong. right (record { number = n; all = all; expands = expands; wrong = wrong }))

-- a call of an action has as many arguments as the action has parameters

pub any_has : {X : Type 0} (p : X → Bool) (xs : List X) → list_any p xs ≡ true → (x : X) × Has xs x × (p x ≡ true)
any_has p [] e = absurd (cc e)
any_has {X} p (y ∷ ys) e = by (p y) refl e (any_has p ys) where
  by : (b : Bool) → p y ≡ b → b || list_any p ys ≡ true → (list_any p ys ≡ true → (x : X) × Has ys x × (p x ≡ true)) → (x : X) × Has (y ∷ ys) x × (p x ≡ true)
  by true is e rest = (y, inl refl, is)
  by false is e rest = let r = rest e in (r.0, inr r.1, r.2)

optional_primitives : AllByRecursion (λ (name : Name). is_any_primitive name ≡ true) with_optional_last
optional_primitives = (refl, (refl, (refl, (refl, (refl, (refl, (refl, (refl, (refl, tt)))))))))

none_optional : (name : Name) → is_any_primitive name ≡ false → optional_count name ≡ 0
none_optional name free = by (has_name with_optional_last name) refl where
  by : (b : Bool) → has_name with_optional_last name ≡ b → cond {A = ℕ} b 1 0 ≡ 0
  by true e =
      let one = any_has (bytes_eq name) with_optional_last e in
      absurd (cc (free, ap is_any_primitive (same_name name one.0 one.2), has_each (λ (n : Name). is_any_primitive n ≡ true) with_optional_last one.0 optional_primitives one.1))
  by false e = refl

no_places : (name : Name) → is_any_primitive name ≡ false → places_of name ≡ None
no_places name free = by (places_of name) refl where
  by : (o : Option (List ArgumentPlace)) → places_of name ≡ o → o ≡ None
  by None e = refl
  by (Some ps) e = absurd (cc (ap is_some e, (neither (is_primitive name) (has_name left_out_primitives name) free).0))

action_declared : (ds : List Decl) (name : Name) (a : Action) → action_of ds name ≡ Some a → is_declared sort.Action ds name ≡ true
action_declared ds name a e = by (action_number ds name) e where
  by : (o : Option ℕ) → option_and_then (slice_get (actions ds)) o ≡ Some a → is_some o ≡ true
  by None e = absurd (cc e)
  by (Some n) e = refl

pub counts_fit : (ds : List Decl) → declares_twice ds ≡ false → has_wrong_call ds ≡ false → CountsFit ds
counts_fit ds once right i a there named =
    let free = no_primitive ds once i.callee (action_declared ds i.callee a named) in
    let wanted : wanted_of ds i.callee ≡ Some (parameter_places a) = ap (λ (o : Option (List ArgumentPlace)). wanted_by o (action_of ds i.callee)) (no_places i.callee free) ∙ ap (option_map parameter_places) named in
    let is = taken ds i (parameter_places a) wanted (none_passes (is_wrong_call ds) (all_invocations ds) i right there) in
    omega (arith, is.count, is.most, none_optional i.callee free, length-map a.parameters place_of_parameter)
