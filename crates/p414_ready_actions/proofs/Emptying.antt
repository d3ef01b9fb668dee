-- Calls that come to something, by the first of them, and actions that come to nothing.
use Rattle.std.proofs.Common.{◌≡◌, ◌≢◌, ℕ, zero, suc, ◌⊎◌, inl, inr, ⊎_elim, Bool, true, false, ◌&&◌, List, [], ◌∷◌, ◌++◌, map, get_or, set, replicate, slice_get, Option, Some, None, option_map, refl, sym, ap, ap₂, ◌∙◌, subst, arith}
use Rattle.std.specs.Prelude.{option_and_then, IsTrue}
use Rattle.std.specs.List.{list_all}
use Rattle.std.specs.Option.{option_map_or}
use Rattle.std.proofs.lemmas.Bool.{cases_lt}
use Rattle.std.proofs.lemmas.List.{get_or-set_other}
use Rattle.std.proofs.lemmas.Option.{slice_get-map}
use Rattle.p414_syntax.specs.declared.actions.Action.{Action}
use Rattle.p414_syntax.specs.declared.syntax.Decl.{Decl}
use Rattle.p414_syntax.specs.Names.{Name}
use Rattle.p414_syntax.specs.Arguments.{Argument, Invocation, invocations_of, actions, action_number, action_of}
use Rattle.p414_syntax.specs.ActionExpansion.{CallsExpand, NoCalls, OfPrimitive, OfAction, invoked_with, body_with}
use Rattle.p414_ready_actions.specs.internal.Known.{AreKnown}
use Rattle.p414_ready_actions.specs.internal.Empty.{AreEmpty, IsEmpty, is_empty_call, is_marked}

-- what calls come to, by the first of them
pub data FrontIs (ds : List Decl) (i : Invocation) (rest all : List Invocation) : Type 0 where
  primitive_first : (more : List Invocation) → action_of ds i.callee ≡ None → CallsExpand ds rest more → all ≡ i ∷ more → FrontIs ds i rest all
  action_first : (a : Action) (within more : List Invocation) → action_of ds i.callee ≡ Some a → CallsExpand ds (body_with i.arguments a) within → CallsExpand ds rest more → all ≡ within ++ more → FrontIs ds i rest all

abbrev pub FrontOf : List Decl → List Invocation → List Invocation → Type 0
FrontOf ds [] all = all ≡ []
FrontOf ds (i ∷ rest) all = FrontIs ds i rest all

pub front : (ds : List Decl) (calls all : List Invocation) → CallsExpand ds calls all → FrontOf ds calls all
front ds _ _ NoCalls = refl
front ds _ _ (OfPrimitive i rest all none h) = primitive_first all none h refl
front ds _ _ (OfAction i rest within all a there h k) = action_first a within all there h k refl

-- a call of an action that is marked

number_then : (ds : List Decl) (marks : List Bool) (o : Option ℕ) → option_map_or (is_marked marks) o false ≡ true → (n : ℕ) × (o ≡ Some n) × (is_marked marks n ≡ true)
number_then ds marks None e = absurd (cc e)
number_then ds marks (Some n) e = (n, refl, e)

parts : (a b : Bool) → (a && b) ≡ true → (a ≡ true) × (b ≡ true)
parts true b e = (refl, e)
parts false b e = absurd (cc e)

comes_to_nothing : (ds : List Decl) (marks : List Bool) (i : Invocation) (a : Action) (given : List Argument) (all : List Invocation) → AreEmpty ds marks → is_empty_call ds marks i ≡ true → action_of ds i.callee ≡ Some a → CallsExpand ds (body_with given a) all → all ≡ []
comes_to_nothing ds marks i a given all empty marked there h =
    let n = number_then ds marks (action_number ds i.callee) marked in
    let at : slice_get (actions ds) n.0 ≡ Some a = sym (ap (option_and_then (slice_get (actions ds))) n.1) ∙ there in
    (empty.empty n.0 n.2).empty a at given all h

is_action : (ds : List Decl) (marks : List Bool) (i : Invocation) → AreEmpty ds marks → is_empty_call ds marks i ≡ true → action_of ds i.callee ≡ None → ⊥
is_action ds marks i empty marked none =
    let n = number_then ds marks (action_number ds i.callee) marked in
    let here = empty.empty n.0 n.2 in
    let some : None ≡ Some here.action = sym none ∙ (ap (option_and_then (slice_get (actions ds))) n.1 ∙ here.there) in
    cc some

nothing_first : (ds : List Decl) (marks : List Bool) (i : Invocation) (rest all : List Invocation) → AreEmpty ds marks → is_empty_call ds marks i ≡ true → ((more : List Invocation) → CallsExpand ds rest more → more ≡ []) → FrontIs ds i rest all → all ≡ []
nothing_first ds marks i rest all empty marked behind (primitive_first more none h e) = absurd (is_action ds marks i empty marked none)
nothing_first ds marks i rest all empty marked behind (action_first a within more there h k e) =
    e ∙ ap₂ (λ (xs ys : List Invocation). xs ++ ys) (comes_to_nothing ds marks i a i.arguments within empty marked there h) (behind more k)

-- calls of actions that are marked come to nothing
nothing_of : (ds : List Decl) (marks : List Bool) (given : List Argument) → AreEmpty ds marks → (is all : List Invocation) → list_all (is_empty_call ds marks) is ≡ true → CallsExpand ds (map (invoked_with given) is) all → all ≡ []
nothing_of ds marks given empty [] all e h = front ds [] all h
nothing_of ds marks given empty (i ∷ is) all e h =
    let both = parts (is_empty_call ds marks i) (list_all (is_empty_call ds marks) is) e in
    nothing_first ds marks (invoked_with given i) (map (invoked_with given) is) all empty both.0
    (λ more k. nothing_of ds marks given empty is more both.1 k) (front ds (map (invoked_with given) (i ∷ is)) all h)

-- marks

some_is : {X : Type 0} {x y : X} → Some x ≡ Some y → x ≡ y
some_is e = cc

at_action : (ds : List Decl) (calls : List (List Invocation)) (n : ℕ) (body : List Invocation) (o : Option Action) → option_map invocations_of o ≡ Some body → (a : Action) × (o ≡ Some a) × (invocations_of a ≡ body)
at_action ds calls n body None e = absurd (cc e)
at_action ds calls n body (Some a) e = (a, refl, some_is e)

pub found_action : (ds : List Decl) (calls : List (List Invocation)) (n : ℕ) (body : List Invocation) → calls ≡ map invocations_of (actions ds) → slice_get calls n ≡ Some body → (a : Action) × (slice_get (actions ds) n ≡ Some a) × (invocations_of a ≡ body)
found_action ds calls n body are there =
    at_action ds calls n body (slice_get (actions ds) n)
    (sym (slice_get-map invocations_of (actions ds) n) ∙ (sym (ap (λ (l : List (List Invocation)). slice_get l n) are) ∙ there))

same_or_not : (a b : ℕ) → (a ≡ b) ⊎ (a ≢ b)
same_or_not a b =
    elim (cases_lt a b) [
      | inl under ↦ inr (λ e. omega arith)
      | inr over ↦
          elim (cases_lt b a) [
            | inl under ↦ inr (λ e. omega arith)
            | inr not_over ↦ inl (omega arith)
          ]
    ]

marked_now : (ds : List Decl) (calls : List (List Invocation)) (marks : List Bool) (n : ℕ) (body : List Invocation) → calls ≡ map invocations_of (actions ds) → slice_get calls n ≡ Some body → list_all (is_empty_call ds marks) body ≡ true → AreEmpty ds marks → AreEmpty ds (set marks n true)
marked_now ds calls marks n body are there all_marked empty = record {
  empty = λ k marked.
      ⊎_elim
      (λ same. subst (IsEmpty ds) (sym same) here)
      (λ other. empty.empty k (sym (get_or-set_other marks n k true false other) ∙ marked))
      (same_or_not k n);
} where
  found : (a : Action) × (slice_get (actions ds) n ≡ Some a) × (invocations_of a ≡ body)
  found = found_action ds calls n body are there

  here : IsEmpty ds n
  here = record {
    action = found.0;
    there = found.1;
    empty = λ a at given all h.
        let same : found.0 ≡ a = some_is (sym found.1 ∙ at) in
        let whole : list_all (is_empty_call ds marks) (invocations_of a) ≡ true = ap (λ (b : Action). list_all (is_empty_call ds marks) (invocations_of b)) (sym same) ∙ (ap (list_all (is_empty_call ds marks)) found.2 ∙ all_marked) in
        nothing_of ds marks given empty (invocations_of a) all whole h;
  }

pub mark_now : (ds : List Decl) (calls : List (List Invocation)) (marks lent : List Bool) (n : ℕ) (found body : List Invocation) (is : Bool) → calls ≡ map invocations_of (actions ds) → slice_get calls n ≡ Some found → lent ≡ marks → body ≡ found → is ≡ list_all (is_empty_call ds lent) body → is ≡ true → AreEmpty ds marks → AreEmpty ds (set marks n true)
mark_now ds calls marks lent n found body is are there same whole told yes_so empty =
    marked_now ds calls marks n found are there
    (sym (ap₂ (λ (l : List Bool) (b : List Invocation). list_all (is_empty_call ds l) b) same whole) ∙ (sym told ∙ yes_so)) empty

pub none_marked : (ds : List Decl) (count : ℕ) → AreEmpty ds (replicate count false)
none_marked ds count = record { empty = λ n marked. absurd (never count n marked) }
  where
    never : (count n : ℕ) → get_or (replicate count false) n false ≡ true → ⊥
    never zero n e = cc e
    never (suc count) zero e = cc e
    never (suc count) (suc n) e = never count n e

pub known_empty : (ds view : List Decl) (bodies : List (List Invocation)) (of_objects of_calculations : List Name) (marks lent : List Bool) (n : ℕ) (is : Bool) → ds ≡ view → AreKnown ds bodies of_objects of_calculations marks → lent ≡ marks → is ≡ is_marked lent n → IsTrue is → IsEmpty view n
known_empty ds view bodies of_objects of_calculations marks lent n is same known whole told marked =
    subst (λ (d : List Decl). IsEmpty d n) same
    (known.empty.empty n (sym (ap (λ (l : List Bool). is_marked l n) whole) ∙ (sym told ∙ marked)))
