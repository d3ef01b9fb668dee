-- Calls are expanded step by step.
use Rattle.std.proofs.Common.{◌≡◌, ℕ, List, [], ◌∷◌, ◌++◌, map, slice_get, Some, None, refl, sym, ap, ap₂, ◌∙◌, subst, append_assoc, append-nil}
use Rattle.std.specs.Prelude.{option_and_then}
use Rattle.p414_syntax.specs.declared.actions.Action.{Action}
use Rattle.p414_syntax.specs.declared.syntax.Decl.{Decl}
use Rattle.p414_syntax.specs.Names.{Name}
use Rattle.p414_syntax.specs.Arguments.{Argument, number_argument, field_argument, parameter_argument, name_argument, Invocation, invocations_of, actions, action_number}
use Rattle.p414_syntax.specs.ActionExpansion.{CallsExpand, NoCalls, OfPrimitive, OfAction, given_for, invoked_with, body_with}
use Rattle.p414_ready_actions.specs.declared.rows.ReadyPrimitive.{ReadyPrimitive}
use Rattle.p414_ready_actions.specs.Meaning.{AreRows}
use Rattle.p414_ready_actions.specs.Words.{called_with, row_by, row_of, word_of}
use Rattle.p414_ready_actions.specs.internal.Empty.{IsEmpty}
use Rattle.p414_ready_actions.specs.internal.Steps.{Steps, waiting}
use Rattle.p414_ready_actions.proofs.Emptying.{FrontIs, primitive_first, action_first, front, found_action}

-- what calls come to, one after another
both_expand : (ds : List Decl) (calls more all others : List Invocation) → CallsExpand ds calls all → CallsExpand ds more others → CallsExpand ds (calls ++ more) (all ++ others)
both_expand ds _ more _ others NoCalls k = k
both_expand ds _ more _ others (OfPrimitive i rest all none h) k = OfPrimitive i (rest ++ more) (all ++ others) none (both_expand ds rest more all others h k)
both_expand ds _ more _ others (OfAction i rest within all a there inside h) k =
    subst (CallsExpand ds (i ∷ (rest ++ more))) (sym (append_assoc within all others))
    (OfAction i (rest ++ more) within (all ++ others) a there inside (both_expand ds rest more all others h k))

abbrev called : Name → List Argument → Invocation
called callee arguments = record { callee = callee; arguments = arguments }

-- steps

module _ (ds : List Decl) (rows : List ReadyPrimitive) where
  row_put : (i : Invocation) (all more : List Invocation) → all ≡ i ∷ more → (rows ++ row_of ds i ∷ []) ++ map (row_of ds) more ≡ rows ++ map (row_of ds) all
  row_put i all more e = append_assoc rows (row_of ds i ∷ []) (map (row_of ds) more) ∙ sym (ap (λ (is : List Invocation). rows ++ map (row_of ds) is) e)

  primitive_by : (i : Invocation) (rest all : List Invocation) → action_number ds i.callee ≡ None → FrontIs ds i rest all → (more : List Invocation) × CallsExpand ds rest more × ((rows ++ row_of ds i ∷ []) ++ map (row_of ds) more ≡ rows ++ map (row_of ds) all)
  primitive_by i rest all none (primitive_first more never h e) = (more, h, row_put i all more e)
  primitive_by i rest all none (action_first a within more there h k e) =
      let some : None ≡ Some a = sym (ap (option_and_then (slice_get (actions ds))) none) ∙ there in absurd (cc some)

  -- an action that comes to nothing
  empty_by : (i : Invocation) (rest all : List Invocation) (n : ℕ) → action_number ds i.callee ≡ Some n → IsEmpty ds n → FrontIs ds i rest all → (more : List Invocation) × CallsExpand ds rest more × (rows ++ map (row_of ds) more ≡ rows ++ map (row_of ds) all)
  empty_by i rest all n number empty (primitive_first more never h e) =
      let some : None ≡ Some empty.action = sym never ∙ (ap (option_and_then (slice_get (actions ds))) number ∙ empty.there) in absurd (cc some)
  empty_by i rest all n number empty (action_first a within more there h k e) =
      let at : slice_get (actions ds) n ≡ Some a = sym (ap (option_and_then (slice_get (actions ds))) number) ∙ there in
      let none : within ≡ [] = empty.empty a at i.arguments within h in
      (more, k, sym (ap (λ (is : List Invocation). rows ++ map (row_of ds) is) (e ∙ ap (λ (is : List Invocation). is ++ more) none)))

  -- the calls of an action in the place of a call of it
  action_by : (i : Invocation) (rest all : List Invocation) (n : ℕ) (a : Action) → action_number ds i.callee ≡ Some n → slice_get (actions ds) n ≡ Some a → FrontIs ds i rest all → (more : List Invocation) × CallsExpand ds (body_with i.arguments a ++ rest) more × (rows ++ map (row_of ds) more ≡ rows ++ map (row_of ds) all)
  action_by i rest all n a number at (primitive_first more never h e) =
      let some : None ≡ Some a = sym never ∙ (ap (option_and_then (slice_get (actions ds))) number ∙ at) in absurd (cc some)
  action_by i rest all n a number at (action_first b within more there h k e) =
      let same : b ≡ a = some_same (sym there ∙ (ap (option_and_then (slice_get (actions ds))) number ∙ at)) in
      let inside : CallsExpand ds (body_with i.arguments a) within = subst (λ (c : Action). CallsExpand ds (body_with i.arguments c) within) same h in
      (within ++ more, both_expand ds (body_with i.arguments a) rest within more inside k, sym (ap (λ (is : List Invocation). rows ++ map (row_of ds) is) e))
    where
      some_same : {X : Type 0} {x y : X} → Some x ≡ Some y → x ≡ y
      some_same e = cc

pub one_row : (ds : List Decl) (callee : Name) (given : List Argument) (left : List (List Invocation)) (old new : List ReadyPrimitive) (row : ReadyPrimitive) → action_number ds callee ≡ None → row ≡ row_by ds (called_with given) (word_of callee) → new ≡ old ++ row ∷ [] → Steps ds (called callee given ∷ waiting left) old (waiting left) new
one_row ds callee given left old new row none is put = record {
  steps = λ all h.
      let found = primitive_by ds old (called callee given) (waiting left) all none (front ds (called callee given ∷ waiting left) all h) in
      let same : new ≡ old ++ row_of ds (called callee given) ∷ [] = put ∙ ap (λ (r : ReadyPrimitive). old ++ r ∷ []) is in
      (found.0, found.1, ap (λ (l : List ReadyPrimitive). l ++ map (row_of ds) found.0) same ∙ found.2);
}

pub left_out : (ds : List Decl) (i : Invocation) (left : List (List Invocation)) (n : ℕ) → action_number ds i.callee ≡ Some n → IsEmpty ds n → (rows : List ReadyPrimitive) → Steps ds (i ∷ waiting left) rows (waiting left) rows
left_out ds i left n number empty rows = record {
  steps = λ all h. empty_by ds rows i (waiting left) all n number empty (front ds (i ∷ waiting left) all h);
}

pub entered : (ds : List Decl) (callee : Name) (given : List Argument) (old new : List (List Invocation)) (n : ℕ) (calls : List Invocation) → action_number ds callee ≡ Some n → slice_get (map invocations_of (actions ds)) n ≡ Some calls → new ≡ map (invoked_with given) calls ∷ old → (rows : List ReadyPrimitive) → Steps ds (called callee given ∷ waiting old) rows (waiting new) rows
entered ds callee given old new n calls numbered there put rows =
    let found = found_action ds (map invocations_of (actions ds)) n calls refl there in
    let body : map (invoked_with given) calls ≡ body_with given found.0 = ap (map (invoked_with given)) (sym found.2) in
    let now : waiting new ≡ body_with given found.0 ++ waiting old = ap waiting put ∙ ap (λ (b : List Invocation). b ++ waiting old) body in
    record {
      steps = λ all h.
          let made = action_by ds rows (called callee given) (waiting old) all n found.0 numbered found.1 (front ds (called callee given ∷ waiting old) all h) in
          (made.0, subst (λ (is : List Invocation). CallsExpand ds is made.0) (sym now) made.1, made.2);
    }

pub first_bound : (given bound : List Argument) (callee : Name) (first : Invocation) (rest calls : List Invocation) → calls ≡ first ∷ rest → callee ≡ first.callee → bound ≡ map (given_for given) first.arguments → map (invoked_with given) calls ≡ called callee bound ∷ map (invoked_with given) rest
first_bound given bound callee first rest calls is named stands =
    ap (map (invoked_with given)) is
    ∙ ap₂ (λ (name : Name) (arguments : List Argument). called name arguments ∷ map (invoked_with given) rest) (sym named) (sym stands)

pub none_taken : (ds : List Decl) (body rest : List Invocation) (rows : List ReadyPrimitive) → body ≡ [] → Steps ds (body ++ rest) rows rest rows
none_taken ds body rest rows none =
    subst (λ (b : List Invocation). Steps ds (b ++ rest) rows rest rows) (sym none) (record { steps = λ all h. (all, h, refl) })

pub first_taken : (ds : List Decl) (body rest : List Invocation) (callee : Name) (given : List Argument) (old middle new : List (List Invocation)) (rows more : List ReadyPrimitive) → body ≡ called callee given ∷ rest → middle ≡ rest ∷ old → Steps ds (called callee given ∷ waiting middle) rows (waiting new) more → Steps ds (body ++ waiting old) rows (waiting new) more
first_taken ds body rest callee given old middle new rows more is put steps =
    let same : called callee given ∷ waiting middle ≡ body ++ waiting old =
    ap (λ (bodies : List (List Invocation)). called callee given ∷ waiting bodies) put ∙ ap (λ (b : List Invocation). b ++ waiting old) (sym is) in
    subst (λ (is : List Invocation). Steps ds is rows (waiting new) more) same steps

-- the loop

parameters_stay : (a : Argument) → given_for [] a ≡ a
parameters_stay (number_argument n) = refl
parameters_stay (field_argument r) = refl
parameters_stay (parameter_argument n) = refl
parameters_stay (name_argument i) = refl

all_stay : (arguments : List Argument) → map (given_for []) arguments ≡ arguments
all_stay [] = refl
all_stay (a ∷ arguments) = ap₂ (λ (x : Argument) (xs : List Argument). x ∷ xs) (parameters_stay a) (all_stay arguments)

calls_stay : (calls : List Invocation) → map (invoked_with []) calls ≡ calls
calls_stay [] = refl
calls_stay (i ∷ calls) =
    ap₂ (λ (arguments : List Argument) (is : List Invocation). called i.callee arguments ∷ is) (all_stay i.arguments) (calls_stay calls)

pub begun : (ds : List Decl) (calls : List Invocation) (left : List (List Invocation)) → left ≡ map (invoked_with []) calls ∷ [] → Steps ds calls [] (waiting left) []
begun ds calls left put =
    let now : waiting left ≡ calls = ap waiting put ∙ (append-nil (map (invoked_with []) calls) ∙ calls_stay calls) in
    record { steps = λ all h. (all, subst (λ (is : List Invocation). CallsExpand ds is all) (sym now) h, refl) }

pub one_more : (ds : List Decl) (calls body : List Invocation) (before popped behind : List (List Invocation)) (rows more : List ReadyPrimitive) → before ≡ body ∷ popped → Steps ds calls [] (waiting before) rows → Steps ds (body ++ waiting popped) rows (waiting behind) more → Steps ds calls [] (waiting behind) more
one_more ds calls body before popped behind rows more pop so next = record {
  steps = λ all h.
      let first = so.steps all h in
      let second = next.steps first.0 (subst (λ (bodies : List (List Invocation)). CallsExpand ds (waiting bodies) first.0) pop first.1) in
      (second.0, second.1, second.2 ∙ first.2);
}

nothing_left : (ds : List Decl) (all : List Invocation) → CallsExpand ds [] all → all ≡ []
nothing_left ds all h = front ds [] all h

pub ended : (ds : List Decl) (calls : List Invocation) (left : List (List Invocation)) (rows : List ReadyPrimitive) → left ≡ [] → Steps ds calls [] (waiting left) rows → (all : List Invocation) → CallsExpand ds calls all → rows ≡ map (row_of ds) all
ended ds calls left rows none so all h =
    let last = so.steps all h in
    let nothing : last.0 ≡ [] = nothing_left ds last.0 (subst (λ (bodies : List (List Invocation)). CallsExpand ds (waiting bodies) last.0) none last.1) in
    sym (append-nil rows) ∙ (sym (ap (λ (is : List Invocation). rows ++ map (row_of ds) is) nothing) ∙ last.2)

-- the action

pub are_rows : (ds : List Decl) (number : ℕ) (calls : List Invocation) (rows : List ReadyPrimitive) → slice_get (map invocations_of (actions ds)) number ≡ Some calls → ((all : List Invocation) → CallsExpand ds calls all → rows ≡ map (row_of ds) all) → AreRows ds number rows
are_rows ds number calls rows there made all expands =
    let found = found_action ds (map invocations_of (actions ds)) number calls refl there in
    let same : found.0 ≡ expands.action = some_same (sym found.1 ∙ expands.numbered) in
    made all (subst (λ (is : List Invocation). CallsExpand ds is all) (ap invocations_of (sym same) ∙ found.2) expands.expands)
  where
    some_same : {X : Type 0} {x y : X} → Some x ≡ Some y → x ≡ y
    some_same e = cc
