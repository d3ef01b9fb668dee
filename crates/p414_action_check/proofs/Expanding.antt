-- What calls come to is what the calls of their actions' nodes in the graph of actions expand to.
use Rattle.std.proofs.Common.{◌≡◌, ℕ, ◌+◌, false, ◌&&◌, cond, is_some, List, [], ◌∷◌, ◌++◌, map, sum_by, slice_get, Option, Some, None, refl, sym, ap, ◌∙◌, subst, arith}
use Rattle.std.specs.Prelude.{filter_map, max, min, unwrap_or}
use Rattle.std.specs.List.{cons_option, list_any}
use Rattle.std.specs.Option.{option_map_or}
use Rattle.std.proofs.lemmas.List.Sums.{sum_by-append, sum_by-cons}
use Rattle.digraph.specs.Graphs.{successors}
use Rattle.digraph.specs.Expansions as calls
use Rattle.p414_syntax.specs.declared.actions.Action.{Action}
use Rattle.p414_syntax.specs.declared.syntax.Decl.{Decl}
use Rattle.p414_syntax.specs.declared.place.ArgumentPlace.{ArgumentPlace}
use Rattle.p414_syntax.specs.declared.place.ArgumentPlace.TheVariants as place
use Rattle.p414_syntax.specs.Arguments.{Argument, number_argument, field_argument, parameter_argument, name_argument, Invocation, invocations_of, actions, action_number, action_of, wanted_of, placed, placed_argument}
use Rattle.p414_syntax.specs.ActionExpansion.{given_for, invoked_with, body_with, callee_number, called_in, CallsExpand, NoCalls, OfPrimitive, OfAction}
use Rattle.p414_list_check.proofs.Expanding.{at_row}
use Rattle.p414_action_check.specs.internal.Counted.{action_graph, length_at, hashed_length, primitive_count, own_count, is_named, gives_name}
use Rattle.p414_action_check.proofs.Numbers.{action_there, number_there, no_number, no_action}
use Rattle.p414_action_check.proofs.Given.{GivesValues, or_first, or_second, gives_same, named_same}

dropped : (o : Option ℕ) (xs : List ℕ) → o ≡ None → cons_option o xs ≡ xs
dropped o xs e = ap (λ p. cons_option p xs) e

kept : (o : Option ℕ) (xs : List ℕ) (n : ℕ) → o ≡ Some n → cons_option o xs ≡ n ∷ xs
kept o xs n e = ap (λ p. cons_option p xs) e

-- the numbers of the actions that these call
abbrev pub called : List Decl → List Invocation → List ℕ
called ds is = filter_map (callee_number ds) is

pub called_same : (ds : List Decl) (given : List Argument) (is : List Invocation) → called ds (map (invoked_with given) is) ≡ called ds is
called_same ds given [] = refl
called_same ds given (i ∷ is) = ap (cons_option (callee_number ds i)) (called_same ds given is)

-- a hash is over the same, whatever stands for parameters

not_hashed : (ds : List Decl) (inputs : List ℕ) (p : ArgumentPlace) (x : Argument) → is_named x ≡ false → length_at ds inputs p x ≡ 0
not_hashed ds inputs place.Calculation (name_argument i) e = absurd (cc e)
not_hashed ds inputs place.Calculation (number_argument n) e = refl
not_hashed ds inputs place.Calculation (field_argument r) e = refl
not_hashed ds inputs place.Calculation (parameter_argument n) e = refl
not_hashed ds inputs place.Target x e = refl
not_hashed ds inputs place.Source x e = refl
not_hashed ds inputs place.Unsigned x e = refl
not_hashed ds inputs place.Header x e = refl
not_hashed ds inputs place.Stack x e = refl
not_hashed ds inputs place.Elements x e = refl
not_hashed ds inputs place.Counter x e = refl
not_hashed ds inputs place.Register x e = refl
not_hashed ds inputs place.Meter x e = refl
not_hashed ds inputs place.List x e = refl

length_same : (ds : List Decl) (inputs : List ℕ) (given : List Argument) (p : ArgumentPlace) (x : Argument) → list_any is_named given ≡ false → length_at ds inputs p (given_for given x) ≡ length_at ds inputs p x
length_same ds inputs given p (number_argument n) e = refl
length_same ds inputs given p (field_argument r) e = refl
length_same ds inputs given p (name_argument i) e = refl
length_same ds inputs given p (parameter_argument n) e =
    not_hashed ds inputs p (given_for given (parameter_argument n)) (named_same given (parameter_argument n) e)
    ∙ sym (not_hashed ds inputs p (parameter_argument n) refl)

lengths_same : (ds : List Decl) (inputs : List ℕ) (given : List Argument) (ps : List ArgumentPlace) (xs : List Argument) → list_any is_named given ≡ false → sum_by (hashed_length ds inputs) (placed ps (map (given_for given) xs)) ≡ sum_by (hashed_length ds inputs) (placed ps xs)
lengths_same ds inputs given [] xs e = refl
lengths_same ds inputs given (p ∷ ps) [] e = refl
lengths_same ds inputs given (p ∷ ps) (x ∷ xs) e =
    let a : sum_by (hashed_length ds inputs) (placed (p ∷ ps) (map (given_for given) (x ∷ xs))) ≡ length_at ds inputs p (given_for given x) + sum_by (hashed_length ds inputs) (placed ps (map (given_for given) xs)) = sum_by-cons (hashed_length ds inputs) (placed_argument p (given_for given x)) (placed ps (map (given_for given) xs)) in
    let b : sum_by (hashed_length ds inputs) (placed (p ∷ ps) (x ∷ xs)) ≡ length_at ds inputs p x + sum_by (hashed_length ds inputs) (placed ps xs) = sum_by-cons (hashed_length ds inputs) (placed_argument p x) (placed ps xs) in
    let c : length_at ds inputs p (given_for given x) ≡ length_at ds inputs p x = length_same ds inputs given p x e in
    let d = lengths_same ds inputs given ps xs e in
    omega arith

count_same : (ds : List Decl) (inputs : List ℕ) (given : List Argument) (i : Invocation) → list_any is_named given ≡ false → own_count ds inputs (invoked_with given i) ≡ own_count ds inputs i
count_same ds inputs given i e =
    ap (λ n. cond (is_some (action_number ds i.callee)) 0 (max 1 (min 65537 n))) (lengths_same ds inputs given (unwrap_or (wanted_of ds i.callee) []) i.arguments e)

pub counts_same : (ds : List Decl) (inputs : List ℕ) (given : List Argument) (is : List Invocation) → list_any is_named given ≡ false → sum_by (own_count ds inputs) (map (invoked_with given) is) ≡ sum_by (own_count ds inputs) is
counts_same ds inputs given [] e = refl
counts_same ds inputs given (i ∷ is) e =
    let a : sum_by (own_count ds inputs) (map (invoked_with given) (i ∷ is)) ≡ own_count ds inputs (invoked_with given i) + sum_by (own_count ds inputs) (map (invoked_with given) is) = sum_by-cons (own_count ds inputs) (invoked_with given i) (map (invoked_with given) is) in
    let b : sum_by (own_count ds inputs) (i ∷ is) ≡ own_count ds inputs i + sum_by (own_count ds inputs) is = sum_by-cons (own_count ds inputs) i is in
    let c : own_count ds inputs (invoked_with given i) ≡ own_count ds inputs i = count_same ds inputs given i e in
    let d = counts_same ds inputs given is e in
    omega arith

-- what the calls of the action with this number count by themselves
abbrev pub row_count : List Decl → List ℕ → ℕ → ℕ
row_count ds inputs n = option_map_or (λ a. sum_by (own_count ds inputs) (invocations_of a)) (slice_get (actions ds) n) 0

module _ (ds : List Decl) (inputs : List ℕ) (values : GivesValues ds) where
  abbrev pub Comes : List Invocation → List Invocation → Type 0
  Comes is all =
      (nodes : List ℕ) × calls.Expands (action_graph ds) (called ds is) nodes
      × (sum_by (primitive_count ds inputs) all ≡ sum_by (own_count ds inputs) is + sum_by (row_count ds inputs) nodes)

  primitive_comes : (i : Invocation) (rest all : List Invocation) → action_of ds i.callee ≡ None → Comes rest all → Comes (i ∷ rest) (i ∷ all)
  primitive_comes i rest all none h =
      let n : action_number ds i.callee ≡ None = no_number ds i.callee none in
      let a : sum_by (primitive_count ds inputs) (i ∷ all) ≡ primitive_count ds inputs i + sum_by (primitive_count ds inputs) all = sum_by-cons (primitive_count ds inputs) i all in
      let b : sum_by (own_count ds inputs) (i ∷ rest) ≡ own_count ds inputs i + sum_by (own_count ds inputs) rest = sum_by-cons (own_count ds inputs) i rest in
      let c : own_count ds inputs i ≡ primitive_count ds inputs i = ap (λ o. cond (is_some o) 0 (primitive_count ds inputs i)) n in
      let e : sum_by (primitive_count ds inputs) all ≡ sum_by (own_count ds inputs) rest + sum_by (row_count ds inputs) h.0 = h.2 in
      (h.0, subst (λ ns. calls.Expands (action_graph ds) ns h.0) (sym (dropped (action_number ds i.callee) (called ds rest) n)) h.1, omega arith)

  -- an action's calls with these arguments count as they are written
  action_comes : (i : Invocation) (rest within all : List Invocation) (a : Action) (n : ℕ) → action_number ds i.callee ≡ Some n → slice_get (actions ds) n ≡ Some a → list_any is_named i.arguments ≡ false → Comes (body_with i.arguments a) within → Comes rest all → Comes (i ∷ rest) (within ++ all)
  action_comes i rest within all a n number there none inside behind =
      let row : successors (action_graph ds) n ≡ called ds (body_with i.arguments a) = at_row (called_in ds) (actions ds) n a there ∙ sym (called_same ds i.arguments (invocations_of a)) in
      let count : row_count ds inputs n ≡ sum_by (own_count ds inputs) (invocations_of a) = ap (λ o. option_map_or (λ x. sum_by (own_count ds inputs) (invocations_of x)) o 0) there in
      let same : sum_by (own_count ds inputs) (body_with i.arguments a) ≡ sum_by (own_count ds inputs) (invocations_of a) = counts_same ds inputs i.arguments (invocations_of a) none in
      let x1 : sum_by (primitive_count ds inputs) (within ++ all) ≡ sum_by (primitive_count ds inputs) within + sum_by (primitive_count ds inputs) all = sum_by-append (primitive_count ds inputs) within all in
      let x2 : sum_by (own_count ds inputs) (i ∷ rest) ≡ own_count ds inputs i + sum_by (own_count ds inputs) rest = sum_by-cons (own_count ds inputs) i rest in
      let x3 : own_count ds inputs i ≡ 0 = ap (λ o. cond (is_some o) 0 (primitive_count ds inputs i)) number in
      let x4 : sum_by (row_count ds inputs) (n ∷ (inside.0 ++ behind.0)) ≡ row_count ds inputs n + sum_by (row_count ds inputs) (inside.0 ++ behind.0) = sum_by-cons (row_count ds inputs) n (inside.0 ++ behind.0) in
      let x5 : sum_by (row_count ds inputs) (inside.0 ++ behind.0) ≡ sum_by (row_count ds inputs) inside.0 + sum_by (row_count ds inputs) behind.0 = sum_by-append (row_count ds inputs) inside.0 behind.0 in
      let x6 : sum_by (primitive_count ds inputs) within ≡ sum_by (own_count ds inputs) (body_with i.arguments a) + sum_by (row_count ds inputs) inside.0 = inside.2 in
      let x7 : sum_by (primitive_count ds inputs) all ≡ sum_by (own_count ds inputs) rest + sum_by (row_count ds inputs) behind.0 = behind.2 in (
        n ∷ (inside.0 ++ behind.0),
        subst (λ ns. calls.Expands (action_graph ds) ns (n ∷ (inside.0 ++ behind.0))) (sym (kept (action_number ds i.callee) (called ds rest) n number))
            (calls.Call n (called ds rest) inside.0 behind.0 (subst (λ ns. calls.Expands (action_graph ds) ns inside.0) (sym row) inside.1) behind.1),
        omega arith,
      )

  -- what these calls come to is counted by what their actions' nodes expand to
  pub comes : (is all : List Invocation) → CallsExpand ds is all → list_any (gives_name ds) is ≡ false → Comes is all
  comes _ _ NoCalls e = ([], calls.Nothing, refl)
  comes _ _ (OfPrimitive i rest all none h) e = primitive_comes i rest all none (comes rest all h (or_second _ _ e))
  comes _ _ (OfAction i rest within all a there h k) e =
      let n = number_there ds i.callee a there in
      let none : list_any is_named i.arguments ≡ false = ap (λ o. is_some o && list_any is_named i.arguments) (sym n.1) ∙ or_first _ _ e in
      action_comes i rest within all a n.0 n.1 n.2 none
      (comes (body_with i.arguments a) within h (gives_same ds i.arguments (invocations_of a) none ∙ values.within n.0 a n.2))
      (comes rest all k (or_second _ _ e))

-- Where the nodes' calls expand, the calls come to something.

abbrev pub SomeCalls : List Decl → List Invocation → Type 0
SomeCalls ds is = (all : List Invocation) × CallsExpand ds is all

abbrev ComeFrom : List Decl → List ℕ → Type 0
ComeFrom ds ns = (is : List Invocation) → called ds is ≡ ns → SomeCalls ds is

primitive_first : (ds : List Decl) (i : Invocation) (rest : List Invocation) → action_number ds i.callee ≡ None → SomeCalls ds rest → SomeCalls ds (i ∷ rest)
primitive_first ds i rest is h = (i ∷ h.0, OfPrimitive i rest h.0 (no_action ds i.callee is) h.1)

action_first : (ds : List Decl) (i : Invocation) (rest : List Invocation) (n : ℕ) → action_number ds i.callee ≡ Some n → ComeFrom ds (successors (action_graph ds) n) → SomeCalls ds rest → SomeCalls ds (i ∷ rest)
action_first ds i rest n is inner h =
    let a = action_there ds i.callee n is in
    let within = inner (body_with i.arguments a.0) (called_same ds i.arguments (invocations_of a.0) ∙ sym (at_row (called_in ds) (actions ds) n a.0 a.1)) in
    (within.0 ++ h.0, OfAction i rest within.0 h.0 a.0 a.2 within.1 h.1)

none_first : (ds : List Decl) (i : Invocation) (rest : List Invocation) (o : Option ℕ) → action_number ds i.callee ≡ o → cons_option o (called ds rest) ≡ [] → (called ds rest ≡ [] → SomeCalls ds rest) → SomeCalls ds (i ∷ rest)
none_first ds i rest None is e more = primitive_first ds i rest is (more e)
none_first ds i rest (Some n) is e more = absurd (cc e)

from_none : (ds : List Decl) → ComeFrom ds []
from_none ds [] e = ([], NoCalls)
from_none ds (i ∷ rest) e = none_first ds i rest (action_number ds i.callee) refl e (from_none ds rest)

call_first : (ds : List Decl) (n : ℕ) (ns : List ℕ) (i : Invocation) (rest : List Invocation) (o : Option ℕ) → action_number ds i.callee ≡ o → cons_option o (called ds rest) ≡ n ∷ ns → ComeFrom ds (successors (action_graph ds) n) → ComeFrom ds ns → (called ds rest ≡ n ∷ ns → SomeCalls ds rest) → SomeCalls ds (i ∷ rest)
call_first ds n ns i rest None is e inner more again = primitive_first ds i rest is (again e)
call_first ds n ns i rest (Some k) is e inner more again = action_first ds i rest n (is ∙ ap Some (cc e)) inner (more rest (cc e))

from_call : (ds : List Decl) (n : ℕ) (ns : List ℕ) → ComeFrom ds (successors (action_graph ds) n) → ComeFrom ds ns → ComeFrom ds (n ∷ ns)
from_call ds n ns inner more [] e = absurd (cc e)
from_call ds n ns inner more (i ∷ rest) e =
    call_first ds n ns i rest (action_number ds i.callee) refl e inner more (from_call ds n ns inner more rest)

pub come_from : (ds : List Decl) (ns nodes : List ℕ) → calls.Expands (action_graph ds) ns nodes → ComeFrom ds ns
come_from ds _ _ calls.Nothing = from_none ds
come_from ds _ _ (calls.Call n rest nodes more e f) = from_call ds n rest (come_from ds (successors (action_graph ds) n) nodes e) (come_from ds rest more f)
