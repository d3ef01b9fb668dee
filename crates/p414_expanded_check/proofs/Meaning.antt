-- Expansions have a wrong primitive exactly where what is given for a parameter isn't taken where the parameter ends.
use Rattle.std.proofs.Common.{◌≡◌, ℕ, suc, zero, Bool, true, false, ◌||◌, ◌&&◌, not, is_some, List, [], ◌∷◌, ◌++◌, length, map, flat_map, slice_get, inl, inr, Option, Some, None, refl, sym, ap, ◌∙◌, subst}
use Rattle.std.specs.Prelude.{unwrap_or}
use Rattle.std.specs.List.{list_any}
use Rattle.std.specs.Option.{option_map_or}
use Rattle.std.specs.Str.{bytes_eq}
use Rattle.std.specs.Prelude.{codes}
use Rattle.std.proofs.lemmas.List.{length-map}
use Rattle.std.proofs.lemmas.List.Folds.{list_any-append}
use Rattle.p414_syntax.specs.declared.actions.Action.{Action}
use Rattle.p414_syntax.specs.declared.syntax.Decl.{Decl}
use Rattle.p414_syntax.specs.declared.place.ArgumentPlace.{ArgumentPlace}
use Rattle.p414_syntax.specs.Primitives.{places_of, primitive_places}
use Rattle.p414_syntax.specs.Arguments.{Argument, number_argument, field_argument, parameter_argument, name_argument, Invocation, invocations_of, all_invocations, actions, action_number, action_of, wanted_by, wanted_of, placed, placed_argument}
use Rattle.p414_syntax.specs.ActionExpansion.{given_for, invoked_with, body_with, CallsExpand, NoCalls, OfPrimitive, OfAction}
use Rattle.p414_syntax.specs.Calls.{takes, is_wrong_count, is_wrong_argument, type_names, differ, takes_others, is_wrong_call, has_wrong_call, ExpandsToWrongCall}
use Rattle.p414_action_check.specs.internal.Counted.{is_named, gives_name}
use Rattle.p414_expanded_check.proofs.Members.{none_of, in_second, in_flat, in_map, in_got}
use Rattle.p414_action_check.proofs.Numbers.{number_there, no_number, no_action}
use Rattle.p414_action_check.proofs.Given.{GivesValues, or_first, or_second, gives_same, named_same}
use Rattle.p414_expanded_check.specs.internal.Passing.{In, refuses, Ends, Stands, Passed, IsRefused}

-- truth values

some_same : {X : Type 0} {x y : X} → Some x ≡ Some y → x ≡ y
some_same e = cc e

second_true : (a b : Bool) → b ≡ true → (a || b) ≡ true
second_true true b e = refl
second_true false b e = e

first_true : (a b : Bool) → a ≡ true → (a || b) ≡ true
first_true true b e = refl
first_true false b e = absurd (cc e)

both_false : (a b : Bool) → a ≡ false → b ≡ false → (a || b) ≡ false
both_false true b e f = absurd (cc e)
both_false false b e f = f

is_not : (b : Bool) → not b ≡ true → b ≡ false
is_not true e = absurd (cc e)
is_not false e = refl

is_so : (b : Bool) → not b ≡ false → b ≡ true
is_so true e = refl
is_so false e = absurd (cc e)

some_in : {X : Type 0} (p : X → Bool) (xs : List X) (x : X) → In x xs → p x ≡ true → list_any p xs ≡ true
some_in p [] x h e = absurd h
some_in p (y ∷ ys) x (inl s) e = first_true (p y) (list_any p ys) (ap p (sym s) ∙ e)
some_in p (y ∷ ys) x (inr h) e = second_true (p y) (list_any p ys) (some_in p ys x h e)

-- what is taken

taken : (ds : List Decl) (p : ArgumentPlace) (x : Argument) → is_named x ≡ false → refuses p x ≡ false → takes ds p x ≡ true
taken ds p (number_argument n) e h = is_so _ h
taken ds p (field_argument r) e h = is_so _ h
taken ds p (parameter_argument n) e h = refl
taken ds p (name_argument i) e h = absurd (cc e)

not_taken : (ds : List Decl) (p : ArgumentPlace) (x : Argument) → refuses p x ≡ true → takes ds p x ≡ false
not_taken ds p (number_argument n) h = is_not _ h
not_taken ds p (field_argument r) h = is_not _ h
not_taken ds p (parameter_argument n) h = absurd (cc h)
not_taken ds p (name_argument i) h = absurd (cc h)

-- one argument of a call, and what is given in its place

got_map : {X Y : Type 0} (f : X → Y) (xs : List X) (j : ℕ) (x : X) → slice_get xs j ≡ Some x → slice_get (map f xs) j ≡ Some (f x)
got_map f [] j x e = absurd (cc e)
got_map f (y ∷ ys) zero x e = ap Some (ap f (cc e))
got_map f (y ∷ ys) (suc j) x e = got_map f ys j x e

map_got : {X Y : Type 0} (f : X → Y) (xs : List X) (j : ℕ) (y : Y) → slice_get (map f xs) j ≡ Some y → (x : X) × (slice_get xs j ≡ Some x) × (y ≡ f x)
map_got f [] j y e = absurd (cc e)
map_got f (x ∷ xs) zero y e = (x, refl, sym (cc e))
map_got f (x ∷ xs) (suc j) y e = map_got f xs j y e

map_in : {X Y : Type 0} (f : X → Y) (xs : List X) (y : Y) → In y (map f xs) → (x : X) × In x xs × (y ≡ f x)
map_in f [] y h = absurd h
map_in f (x ∷ xs) y (inl e) = (x, inl refl, e)
map_in f (x ∷ xs) y (inr h) = let r = map_in f xs y h in (r.0, inr r.1, r.2)

given_is : (given : List Argument) (m : ℕ) (v : Argument) → slice_get given m ≡ Some v → given_for given (parameter_argument m) ≡ v
given_is given m v e = ap (λ o. unwrap_or o (parameter_argument m)) e

-- places of a primitive

placed_given : (f : Argument → Argument) (p : ArgumentPlace) (x : Argument) (ps : List ArgumentPlace) (xs : List Argument) → In (placed_argument p x) (placed ps xs) → In (placed_argument p (f x)) (placed ps (map f xs))
placed_given f p x [] xs h = absurd h
placed_given f p x (q ∷ ps) [] h = absurd h
placed_given f p x (q ∷ ps) (y ∷ xs) (inl e) = inl (ap (λ a. placed_argument a.wanted (f a.argument)) e)
placed_given f p x (q ∷ ps) (y ∷ xs) (inr h) = inr (placed_given f p x ps xs h)

types_same : (ds : List Decl) (given : List Argument) (x : Argument) → list_any is_named given ≡ false → type_names ds (given_for given x) ≡ type_names ds x
types_same ds given (number_argument n) e = refl
types_same ds given (field_argument r) e = refl
types_same ds given (name_argument i) e = refl
types_same ds given (parameter_argument n) e = no_types (given_for given (parameter_argument n)) (named_same given (parameter_argument n) e) where
  no_types : (v : Argument) → is_named v ≡ false → type_names ds v ≡ []
  no_types (number_argument k) h = refl
  no_types (field_argument r) h = refl
  no_types (parameter_argument k) h = refl
  no_types (name_argument i) h = absurd (cc h)

all_types_same : (ds : List Decl) (given xs : List Argument) → list_any is_named given ≡ false → flat_map (type_names ds) (map (given_for given) xs) ≡ flat_map (type_names ds) xs
all_types_same ds given [] e = refl
all_types_same ds given (x ∷ xs) e =
    ap (λ l. l ++ flat_map (type_names ds) (map (given_for given) xs)) (types_same ds given x e)
    ∙ ap (λ l. type_names ds x ++ l) (all_types_same ds given xs e)

-- what is given for the parameter m ends nowhere where it isn't taken
abbrev Fits : List Decl → List Argument → ℕ → Type 0
Fits ds given k = (m : ℕ) (v : Argument) (p : ArgumentPlace) → slice_get given m ≡ Some v → Ends ds p k m → refuses p v ≡ false

taken_given : (ds : List Decl) (given : List Argument) (k m : ℕ) (p : ArgumentPlace) (o : Option Argument) → slice_get given m ≡ o → list_any is_named given ≡ false → Fits ds given k → Ends ds p k m → takes ds p (given_for given (parameter_argument m)) ≡ true
taken_given ds given k m p None is e fits ends = ap (λ o. takes ds p (unwrap_or o (parameter_argument m))) is
taken_given ds given k m p (Some v) is e fits ends =
    ap (takes ds p) (given_is given m v is)
    ∙ taken ds p v (ap is_named (sym (given_is given m v is)) ∙ named_same given (parameter_argument m) e) (fits m v p is ends)

arguments_taken : (ds : List Decl) (given : List Argument) (k : ℕ) (ps : List ArgumentPlace) (xs : List Argument) → list_any is_named given ≡ false → Fits ds given k
    → ((p : ArgumentPlace) (m : ℕ) → In (placed_argument p (parameter_argument m)) (placed ps xs) → Ends ds p k m)
    → list_any (is_wrong_argument ds) (placed ps xs) ≡ false → list_any (is_wrong_argument ds) (placed ps (map (given_for given) xs)) ≡ false
arguments_taken ds given k [] xs e fits ends right = refl
arguments_taken ds given k (p ∷ ps) [] e fits ends right = refl
arguments_taken ds given k (p ∷ ps) (number_argument n ∷ xs) e fits ends right =
    both_false (is_wrong_argument ds (placed_argument p (number_argument n))) (list_any (is_wrong_argument ds) (placed ps (map (given_for given) xs))) (or_first _ _ right) (arguments_taken ds given k ps xs e fits (λ q m h. ends q m (inr h)) (or_second _ _ right))
arguments_taken ds given k (p ∷ ps) (field_argument r ∷ xs) e fits ends right =
    both_false (is_wrong_argument ds (placed_argument p (field_argument r))) (list_any (is_wrong_argument ds) (placed ps (map (given_for given) xs))) (or_first _ _ right) (arguments_taken ds given k ps xs e fits (λ q m h. ends q m (inr h)) (or_second _ _ right))
arguments_taken ds given k (p ∷ ps) (name_argument i ∷ xs) e fits ends right =
    both_false (is_wrong_argument ds (placed_argument p (name_argument i))) (list_any (is_wrong_argument ds) (placed ps (map (given_for given) xs))) (or_first _ _ right) (arguments_taken ds given k ps xs e fits (λ q m h. ends q m (inr h)) (or_second _ _ right))
arguments_taken ds given k (p ∷ ps) (parameter_argument m ∷ xs) e fits ends right =
    both_false (is_wrong_argument ds (placed_argument p (given_for given (parameter_argument m)))) (list_any (is_wrong_argument ds) (placed ps (map (given_for given) xs)))
    (ap not (taken_given ds given k m p (slice_get given m) refl e fits (ends p m (inl refl))))
    (arguments_taken ds given k ps xs e fits (λ q l h. ends q l (inr h)) (or_second false (list_any (is_wrong_argument ds) (placed ps xs)) right))

places_are : (o : Option (List ArgumentPlace)) (ps : List ArgumentPlace) → wanted_by o None ≡ Some ps → unwrap_or o [] ≡ ps
places_are None ps e = absurd (cc e)
places_are (Some qs) ps e = cc e

places_of_wanted : (ds : List Decl) (name : List ℕ) (ps : List ArgumentPlace) → action_number ds name ≡ None → wanted_of ds name ≡ Some ps → primitive_places name ≡ ps
places_of_wanted ds name ps none e = places_are (places_of name) ps (sym (ap (wanted_by (places_of name)) (no_action ds name none)) ∙ e)

-- a primitive of the action k, called with these arguments
module _ (ds : List Decl) (given : List Argument) (k : ℕ) (e : list_any is_named given ≡ false) (fits : Fits ds given k) where
  others_given : (i : Invocation) (ps : List ArgumentPlace) → ((p : ArgumentPlace) (m : ℕ) → In (placed_argument p (parameter_argument m)) (placed ps i.arguments) → Ends ds p k m) → takes_others ds i ps ≡ false → takes_others ds (invoked_with given i) ps ≡ false
  others_given i ps ends right =
      both_false _ _
      (ap (is_wrong_count i.callee (length ps)) (length-map i.arguments (given_for given)) ∙ or_first _ _ right)
      (arguments_taken ds given k ps i.arguments e fits ends (or_second _ _ right))

  wanted_given : (i : Invocation) (o : Option (List ArgumentPlace)) → wanted_of ds i.callee ≡ o → action_number ds i.callee ≡ None → ((p : ArgumentPlace) (m : ℕ) → In (placed_argument p (parameter_argument m)) (placed (primitive_places i.callee) i.arguments) → Ends ds p k m) → option_map_or (takes_others ds i) o false ≡ false → option_map_or (takes_others ds (invoked_with given i)) o false ≡ false
  wanted_given i None is none ends right = refl
  wanted_given i (Some ps) is none ends right =
      others_given i ps (λ p m h. ends p m (subst (λ qs. In (placed_argument p (parameter_argument m)) (placed qs i.arguments)) (sym (places_of_wanted ds i.callee ps none is)) h)) right

  right_given : (i : Invocation) → action_number ds i.callee ≡ None → ((p : ArgumentPlace) (m : ℕ) → In (placed_argument p (parameter_argument m)) (placed (primitive_places i.callee) i.arguments) → Ends ds p k m) → is_wrong_call ds i ≡ false → is_wrong_call ds (invoked_with given i) ≡ false
  right_given i none ends right =
      both_false _ _
      (wanted_given i (wanted_of ds i.callee) refl none ends (or_first _ _ right))
      (ap (λ l. bytes_eq i.callee (codes "copy_header") && differ l) (all_types_same ds given i.arguments e) ∙ or_second _ _ right)

-- a call within an expansion: a primitive isn't wrong, and what is given to an action fits where it ends
record IsHarmless (ds : List Decl) (i : Invocation) : Type 0 where
  pub primitive : action_number ds i.callee ≡ None → is_wrong_call ds i ≡ false
  pub passed : (k : ℕ) → action_number ds i.callee ≡ Some k → Fits ds i.arguments k

abbrev AreHarmless : List Decl → List Invocation → Type 0
AreHarmless ds is = (i : Invocation) → In i is → IsHarmless ds i

module _ (ds : List Decl) (values : GivesValues ds) (right : has_wrong_call ds ≡ false) (none : (p : ArgumentPlace) → IsRefused ds p → ⊥) where
  by_truth : (b : Bool) → (b ≡ true → ⊥) → b ≡ false
  by_truth true h = absurd (h refl)
  by_truth false h = refl

  as_written : (n : ℕ) (a : Action) (i : Invocation) → slice_get (actions ds) n ≡ Some a → In i (invocations_of a) → is_wrong_call ds i ≡ false
  as_written n a i there within = none_of (is_wrong_call ds) (all_invocations ds) i right (in_flat invocations_of (actions ds) a i (in_got (actions ds) n a there) within)

  -- what is written is given for parameters that take it
  written_fits : (n : ℕ) (a : Action) (i : Invocation) (k : ℕ) → slice_get (actions ds) n ≡ Some a → In i (invocations_of a) → action_number ds i.callee ≡ Some k → Fits ds i.arguments k
  written_fits n a i k there within calls j x p passes ends =
      by_truth (refuses p x) (λ refused. none p (record {
        caller = n;
        action = a;
        call = i;
        callee = k;
        position = j;
        given = x;
        there = there;
        within = within;
        calls = calls;
        passes = passes;
        ends = ends;
        refused = refused;
      }))

  written_harmless : (n : ℕ) (a : Action) → slice_get (actions ds) n ≡ Some a → AreHarmless ds (invocations_of a)
  written_harmless n a there i within =
      record { primitive = λ e. as_written n a i there within; passed = λ k calls. written_fits n a i k there within calls }

  -- the same of an action's calls with arguments that fit
  given_fits : (given : List Argument) (n : ℕ) (a : Action) (i : Invocation) (k : ℕ) → Fits ds given n → slice_get (actions ds) n ≡ Some a → In i (invocations_of a) → action_number ds i.callee ≡ Some k
      → (j : ℕ) (x y : Argument) (p : ArgumentPlace) → slice_get i.arguments j ≡ Some x → y ≡ given_for given x → Ends ds p k j → refuses p y ≡ false
  given_fits given n a i k fits there within calls j (number_argument c) y p passes is ends = ap (refuses p) is ∙ written_fits n a i k there within calls j (number_argument c) p passes ends
  given_fits given n a i k fits there within calls j (field_argument r) y p passes is ends = ap (refuses p) is ∙ written_fits n a i k there within calls j (field_argument r) p passes ends
  given_fits given n a i k fits there within calls j (name_argument c) y p passes is ends = ap (refuses p) is
  given_fits given n a i k fits there within calls j (parameter_argument m) y p passes is ends = ap (refuses p) is ∙ of_parameter (slice_get given m) refl where
    of_parameter : (o : Option Argument) → slice_get given m ≡ o → refuses p (given_for given (parameter_argument m)) ≡ false
    of_parameter None e = ap (λ o. refuses p (unwrap_or o (parameter_argument m))) e
    of_parameter (Some v) e = ap (refuses p) (given_is given m v e) ∙ fits m v p e (Passed n m k j a i there within calls passes ends)

  given_harmless : (given : List Argument) (n : ℕ) (a : Action) → list_any is_named given ≡ false → Fits ds given n → slice_get (actions ds) n ≡ Some a → AreHarmless ds (body_with given a)
  given_harmless given n a e fits there i h =
      let r = map_in (invoked_with given) (invocations_of a) i h in
      subst (IsHarmless ds) (sym r.2) (record {
        primitive = λ alone. right_given ds given n e fits r.0 alone (λ p m standing. Stands n m a r.0 there r.1 alone standing) (as_written n a r.0 there r.1);
        passed = λ k calls j y p passes ends.
            let x = map_got (given_for given) r.0.arguments j y passes in
            given_fits given n a r.0 k fits there r.1 calls j x.0 y p x.1 x.2 ends;
      })

  -- such calls come to no wrong primitive
  harmless_right : (is all : List Invocation) → CallsExpand ds is all → list_any (gives_name ds) is ≡ false → AreHarmless ds is → list_any (is_wrong_call ds) all ≡ false
  harmless_right _ _ NoCalls e harmless = refl
  harmless_right _ _ (OfPrimitive i rest all alone h) e harmless =
      both_false _ _ ((harmless i (inl refl)).primitive (no_number ds i.callee alone)) (harmless_right rest all h (or_second _ _ e) (λ j m. harmless j (inr m)))
  harmless_right _ _ (OfAction i rest within all a there h k) e harmless =
      let n = number_there ds i.callee a there in
      let unnamed : list_any is_named i.arguments ≡ false = ap (λ o. is_some o && list_any is_named i.arguments) (sym n.1) ∙ or_first _ _ e in
      list_any-append (is_wrong_call ds) within all
      ∙ both_false _ _
      (harmless_right (body_with i.arguments a) within h (gives_same ds i.arguments (invocations_of a) unnamed ∙ values.within n.0 a n.2)
      (given_harmless i.arguments n.0 a unnamed ((harmless i (inl refl)).passed n.0 n.1) n.2))
      (harmless_right rest all k (or_second _ _ e) (λ j m. harmless j (inr m)))

  pub expands_right : ExpandsToWrongCall ds → ⊥
  expands_right x =
      cc (x.wrong, harmless_right (invocations_of x.expands.action) x.all x.expands.expands (values.within x.number x.expands.action x.expands.numbered) (written_harmless x.number x.expands.action x.expands.numbered))

-- the other way round: what isn't taken makes a primitive of some expansion wrong

stays : (ds : List Decl) (is all : List Invocation) → CallsExpand ds is all → (i : Invocation) → In i is → action_of ds i.callee ≡ None → In i all
stays ds _ _ NoCalls i m e = absurd m
stays ds _ _ (OfPrimitive j rest all alone h) i (inl s) e = inl s
stays ds _ _ (OfPrimitive j rest all alone h) i (inr m) e = inr (stays ds rest all h i m e)
stays ds _ _ (OfAction j rest within all a there h k) i (inl s) e = absurd (cc (e, there, ap (λ (q : Invocation). action_of ds q.callee) s))
stays ds _ _ (OfAction j rest within all a there h k) i (inr m) e = in_second i within all (stays ds rest all k i m e)

-- a primitive with an argument that isn't taken is wrong

wanted_there : (o : Option (List ArgumentPlace)) (x : ArgumentPlace) (y : Argument) (xs : List Argument) → In (placed_argument x y) (placed (unwrap_or o []) xs) → (ps : List ArgumentPlace) × (o ≡ Some ps) × In (placed_argument x y) (placed ps xs)
wanted_there None x y xs h = absurd h
wanted_there (Some ps) x y xs h = (ps, refl, h)

wrong_there : (ds : List Decl) (i : Invocation) (p : ArgumentPlace) (v : Argument) → action_number ds i.callee ≡ None → In (placed_argument p v) (placed (primitive_places i.callee) i.arguments) → refuses p v ≡ true → is_wrong_call ds i ≡ true
wrong_there ds i p v alone h refused =
    let w = wanted_there (places_of i.callee) p v i.arguments h in
    let wanted : wanted_of ds i.callee ≡ Some w.0 = ap (λ o. wanted_by o (action_of ds i.callee)) w.1 in
    let others : takes_others ds i w.0 ≡ true = second_true _ _ (some_in (is_wrong_argument ds) (placed w.0 i.arguments) (placed_argument p v) w.2 (ap not (not_taken ds p v refused))) in
    first_true _ _ (ap (λ o. option_map_or (takes_others ds i) o false) wanted ∙ others)

ends_wrong : (ds : List Decl) (is all : List Invocation) → CallsExpand ds is all → (i : Invocation) → In i is → (k j : ℕ) (v : Argument) (p : ArgumentPlace) → action_number ds i.callee ≡ Some k → slice_get i.arguments j ≡ Some v → Ends ds p k j → refuses p v ≡ true → list_any (is_wrong_call ds) all ≡ true
ends_wrong ds _ _ NoCalls i m k j v p calls passes ends refused = absurd m
ends_wrong ds _ _ (OfPrimitive q rest all alone h) i (inl s) k j v p calls passes ends refused =
    absurd (cc (calls, ap (λ (w : Invocation). action_number ds w.callee) s, no_number ds q.callee alone))
ends_wrong ds _ _ (OfPrimitive q rest all alone h) i (inr m) k j v p calls passes ends refused =
    second_true _ _ (ends_wrong ds rest all h i m k j v p calls passes ends refused)
ends_wrong ds _ _ (OfAction q rest within all a there h l) i (inr m) k j v p calls passes ends refused =
    list_any-append (is_wrong_call ds) within all ∙ second_true _ _ (ends_wrong ds rest all l i m k j v p calls passes ends refused)
ends_wrong ds _ _ (OfAction q rest within all a there h l) i (inl s) k j v p calls passes (Stands _ _ b c standing inside alone placing) refused =
    let n = number_there ds q.callee a there in
    let same : k ≡ n.0 = some_same (sym calls ∙ (ap (λ (w : Invocation). action_number ds w.callee) s ∙ n.1)) in
    let body : b ≡ a = some_same (sym standing ∙ (ap (slice_get (actions ds)) same ∙ n.2)) in
    let value : slice_get q.arguments j ≡ Some v = ap (λ (w : Invocation). slice_get w.arguments j) (sym s) ∙ passes in
    let moved : In (invoked_with q.arguments c) (body_with q.arguments a) = in_map (invoked_with q.arguments) (invocations_of a) c (subst (λ (w : Action). In c (invocations_of w)) body inside) in
    let placed_there : In (placed_argument p v) (placed (primitive_places c.callee) (map (given_for q.arguments) c.arguments)) =
    subst (λ (w : Argument). In (placed_argument p w) (placed (primitive_places c.callee) (map (given_for q.arguments) c.arguments))) (given_is q.arguments j v value) (placed_given (given_for q.arguments) p (parameter_argument j) (primitive_places c.callee) c.arguments placing) in
    let wrong : list_any (is_wrong_call ds) within ≡ true =
    some_in (is_wrong_call ds) within (invoked_with q.arguments c) (stays ds (body_with q.arguments a) within h (invoked_with q.arguments c) moved (no_action ds c.callee alone)) (wrong_there ds (invoked_with q.arguments c) p v alone placed_there refused) in
    list_any-append (is_wrong_call ds) within all ∙ first_true _ _ wrong
ends_wrong ds _ _ (OfAction q rest within all a there h l) i (inl s) k j v p calls passes (Passed _ _ k2 j2 b c standing inside calls2 passes2 ends) refused =
    let n = number_there ds q.callee a there in
    let same : k ≡ n.0 = some_same (sym calls ∙ (ap (λ (w : Invocation). action_number ds w.callee) s ∙ n.1)) in
    let body : b ≡ a = some_same (sym standing ∙ (ap (slice_get (actions ds)) same ∙ n.2)) in
    let value : slice_get q.arguments j ≡ Some v = ap (λ (w : Invocation). slice_get w.arguments j) (sym s) ∙ passes in
    let moved : In (invoked_with q.arguments c) (body_with q.arguments a) = in_map (invoked_with q.arguments) (invocations_of a) c (subst (λ (w : Action). In c (invocations_of w)) body inside) in
    let given2 : slice_get (map (given_for q.arguments) c.arguments) j2 ≡ Some v = got_map (given_for q.arguments) c.arguments j2 (parameter_argument j) passes2 ∙ ap Some (given_is q.arguments j v value) in
    list_any-append (is_wrong_call ds) within all
    ∙ first_true _ _ (ends_wrong ds (body_with q.arguments a) within h (invoked_with q.arguments c) moved k2 j2 v p calls2 given2 ends refused)

-- where each action comes to something, what isn't taken shows
pub expands_wrong : (ds : List Decl) → ((n : ℕ) (a : Action) → slice_get (actions ds) n ≡ Some a → (all : List Invocation) × CallsExpand ds (invocations_of a) all) → (p : ArgumentPlace) → IsRefused ds p → ExpandsToWrongCall ds
expands_wrong ds some p r =
    let all = some r.caller r.action r.there in
    record {
      number = r.caller;
      all = all.0;
      expands = record { action = r.action; numbered = r.there; expands = all.1 };
      wrong = ends_wrong ds (invocations_of r.action) all.0 all.1 r.call r.within r.callee r.position r.given p r.calls r.passes r.ends r.refused;
    }
