-- An action comes to a request where the calls of its node in the graph of actions expand to a node that makes one.
use Rattle.std.proofs.Common.{◌≡◌, ℕ, suc, zero, ◌+◌, ◌<◌, ◌↔◌, min, Bool, true, false, ◌&&◌, ◌||◌, cond, is_none, nat_lt, inl, inr, List, [], ◌∷◌, ◌++◌, length, get_or, map, sum_by, slice_get, slice_index, Option, Some, None, option_and_then, Contains, refl, sym, ap, ◌∙◌, subst, arith}
use Rattle.std.specs.Prelude.{filter_map, IsTrue}
use Rattle.std.specs.List.{cons_option, list_any}
use Rattle.std.specs.Option.{option_map_or}
use Rattle.std.specs.Str.{bytes_eq}
use Rattle.std.proofs.lemmas.Bool.{lt-ltb}
use Rattle.std.proofs.lemmas.List.{length-map}
use Rattle.std.proofs.lemmas.List.Quantifiers.{position-Some}
use Rattle.std.proofs.lemmas.List.Sums.{sum_by-append, sum_by-cons}
use Rattle.digraph.specs.Graphs.{Among, successors, IsEdge, WalkTo, Edge, Onward, IsClosed}
use Rattle.digraph.specs.Expansions as calls
use Rattle.digraph.specs.Expansions.{AreSizes, HasCycle, size_of}
use Rattle.p414_syntax.specs.declared.actions.Action.{Action}
use Rattle.p414_syntax.specs.declared.tables.Table.{Table}
use Rattle.p414_syntax.specs.declared.syntax.Decl.{Decl}
use Rattle.p414_syntax.specs.declared.syntax.Decl.TheVariants as decl
use Rattle.p414_syntax.specs.declared.syntax.Sort.TheVariants as sort
use Rattle.p414_syntax.specs.Names.{Name, names_in}
use Rattle.p414_syntax.specs.Walks.{IsWalk}
use Rattle.p414_syntax.specs.Arguments.{Argument, Invocation, invocations_of, actions, action_number, action_of}
use Rattle.p414_syntax.specs.ActionExpansion.{invoked_with, body_with, CallsExpand, NoCalls, OfPrimitive, OfAction, ActionExpands, callee_number, called_in, actions_called_by}
use Rattle.p414_syntax.specs.Actions.{ActionCallsItself}
use Rattle.p414_syntax.specs.Tables.{tables, listed_in, listed_by}
use Rattle.p414_syntax.specs.Pipelines.{is_call_of, ListsRequest}
use Rattle.p414_control_check.proofs.Expanding.{get_within, there_within, at_row}
use Rattle.p414_control_check.proofs.Holding.{among, contains}
use Rattle.p414_pipeline_check.specs.internal.Requests.{is_request, request_weight, own_requests, all_calls, action_graph, names_request, lists_request, tables_with_requests, AreListed}

-- numbers of actions

same_length : (ds : List Decl) → length (names_in sort.Action ds) ≡ length (actions ds)
same_length [] = refl
same_length (decl.Action x ∷ ds) = ap suc (same_length ds)
same_length (decl.HeaderType x ∷ ds) = same_length ds
same_length (decl.Header x ∷ ds) = same_length ds
same_length (decl.Metadata x ∷ ds) = same_length ds
same_length (decl.FieldList x ∷ ds) = same_length ds
same_length (decl.FieldListCalculation x ∷ ds) = same_length ds
same_length (decl.CalculatedField x ∷ ds) = same_length ds
same_length (decl.Parser x ∷ ds) = same_length ds
same_length (decl.Table x ∷ ds) = same_length ds
same_length (decl.Counter x ∷ ds) = same_length ds
same_length (decl.Meter x ∷ ds) = same_length ds
same_length (decl.Register x ∷ ds) = same_length ds
same_length (decl.Control x ∷ ds) = same_length ds
same_length (decl.LeftOut x ∷ ds) = same_length ds

pub action_within : (ds : List Decl) (name : Name) (n : ℕ) → action_number ds name ≡ Some n → n < length (actions ds)
action_within ds name n e =
    let within : n < length (names_in sort.Action ds) = (position-Some (bytes_eq name) (names_in sort.Action ds) n [] e).0 in
    subst (λ m. n < m) (same_length ds) within

-- the action that is called
action_there : (ds : List Decl) (o : Option ℕ) (a : Action) → option_and_then (slice_get (actions ds)) o ≡ Some a → (n : ℕ) × (o ≡ Some n) × (slice_get (actions ds) n ≡ Some a)
action_there ds None a e = absurd (cc e)
action_there ds (Some n) a e = (n, refl, e)

no_action : (ds : List Decl) (name : Name) (o : Option ℕ) → action_number ds name ≡ o → option_and_then (slice_get (actions ds)) o ≡ None → o ≡ None
no_action ds name None is e = refl
no_action ds name (Some n) is e = let f = get_within (actions ds) n (action_within ds name n is) in absurd (cc (f.1, e))

is_primitive : (ds : List Decl) (i : Invocation) → action_of ds i.callee ≡ None → callee_number ds i ≡ None
is_primitive ds i e = no_action ds i.callee (action_number ds i.callee) refl e

dropped : (o : Option ℕ) (xs : List ℕ) → o ≡ None → cons_option o xs ≡ xs
dropped o xs e = ap (λ p. cons_option p xs) e

kept : (o : Option ℕ) (xs : List ℕ) (n : ℕ) → o ≡ Some n → cons_option o xs ≡ n ∷ xs
kept o xs n e = ap (λ p. cons_option p xs) e

-- calls with other arguments are calls of the same

abbrev called : List Decl → List Invocation → List ℕ
called ds is = filter_map (callee_number ds) is

same_called : (ds : List Decl) (given : List Argument) (is : List Invocation) → called ds (map (invoked_with given) is) ≡ called ds is
same_called ds given [] = refl
same_called ds given (i ∷ is) = ap (cons_option (callee_number ds i)) (same_called ds given is)

module _ (ds : List Decl) (primitives : List Name) where
  abbrev own : Invocation → ℕ
  own i = request_weight ds primitives i

  abbrev weight : Invocation → ℕ
  weight i = cond (is_call_of primitives i) 1 0

  abbrev row_in : Option Action → ℕ
  row_in o = option_map_or (λ (a : Action). sum_by own (invocations_of a)) o 0

  abbrev row : ℕ → ℕ
  row n = row_in (slice_get (actions ds) n)

  same_own : (given : List Argument) (is : List Invocation) → sum_by own (map (invoked_with given) is) ≡ sum_by own is
  same_own given [] = refl
  same_own given (i ∷ is) =
      let a : sum_by own (invoked_with given i ∷ map (invoked_with given) is) ≡ own i + sum_by own (map (invoked_with given) is) = sum_by-cons own (invoked_with given i) (map (invoked_with given) is) in
      let b : sum_by own (i ∷ is) ≡ own i + sum_by own is = sum_by-cons own i is in
      let c = same_own given is in
      omega arith

  pub record Comes (is all : List Invocation) : Type 0 where
    pub nodes : List ℕ
    pub expands : calls.Expands (action_graph ds) (called ds is) nodes
    pub count : sum_by weight all ≡ sum_by own is + sum_by row nodes

  none_come : Comes [] []
  none_come = record { nodes = []; expands = calls.Nothing; count = refl }

  own_weight : (i : Invocation) → callee_number ds i ≡ None → own i ≡ weight i
  own_weight i e = ap (λ o. cond (is_none o && is_call_of primitives i) 1 0) e

  no_weight : (i : Invocation) (n : ℕ) → callee_number ds i ≡ Some n → own i ≡ 0
  no_weight i n e = ap (λ o. cond (is_none o && is_call_of primitives i) 1 0) e

  primitive_comes : (i : Invocation) (rest all : List Invocation) → action_of ds i.callee ≡ None → Comes rest all → Comes (i ∷ rest) (i ∷ all)
  primitive_comes i rest all none h =
      let n = is_primitive ds i none in
      let a : sum_by weight (i ∷ all) ≡ weight i + sum_by weight all = sum_by-cons weight i all in
      let b : sum_by own (i ∷ rest) ≡ own i + sum_by own rest = sum_by-cons own i rest in
      let c : own i ≡ weight i = own_weight i n in
      let e : sum_by weight all ≡ sum_by own rest + sum_by row h.nodes = h.count in
      record {
        nodes = h.nodes;
        expands = subst (λ ns. calls.Expands (action_graph ds) ns h.nodes) (sym (dropped (callee_number ds i) (called ds rest) n)) h.expands;
        count = omega arith;
      }

  action_comes : (i : Invocation) (rest within all : List Invocation) (a : Action) → action_of ds i.callee ≡ Some a → Comes (body_with i.arguments a) within → Comes rest all → Comes (i ∷ rest) (within ++ all)
  action_comes i rest within all a some inside behind =
      let found = action_there ds (action_number ds i.callee) a some in
      let n = found.0 in
      let row_is : successors (action_graph ds) n ≡ called ds (invocations_of a) = at_row (called_in ds) (actions ds) n a found.2 in
      let inner : calls.Expands (action_graph ds) (successors (action_graph ds) n) inside.nodes = subst (λ ns. calls.Expands (action_graph ds) ns inside.nodes) (same_called ds i.arguments (invocations_of a) ∙ sym row_is) inside.expands in
      let r : row n ≡ sum_by own (invocations_of a) = ap row_in found.2 in
      let s : sum_by own (body_with i.arguments a) ≡ sum_by own (invocations_of a) = same_own i.arguments (invocations_of a) in
      let x : sum_by weight (within ++ all) ≡ sum_by weight within + sum_by weight all = sum_by-append weight within all in
      let b : sum_by own (i ∷ rest) ≡ own i + sum_by own rest = sum_by-cons own i rest in
      let c : own i ≡ 0 = no_weight i n found.1 in
      let d : sum_by row (n ∷ (inside.nodes ++ behind.nodes)) ≡ row n + sum_by row (inside.nodes ++ behind.nodes) = sum_by-cons row n (inside.nodes ++ behind.nodes) in
      let e : sum_by row (inside.nodes ++ behind.nodes) ≡ sum_by row inside.nodes + sum_by row behind.nodes = sum_by-append row inside.nodes behind.nodes in
      let y : sum_by weight within ≡ sum_by own (body_with i.arguments a) + sum_by row inside.nodes = inside.count in
      let z : sum_by weight all ≡ sum_by own rest + sum_by row behind.nodes = behind.count in
      record {
        nodes = n ∷ (inside.nodes ++ behind.nodes);
        expands = subst (λ ns. calls.Expands (action_graph ds) ns (n ∷ (inside.nodes ++ behind.nodes))) (sym (kept (callee_number ds i) (called ds rest) n found.1))
            (calls.Call n (called ds rest) inside.nodes behind.nodes inner behind.expands);
        count = omega arith;
      }

  pub comes : (is all : List Invocation) → CallsExpand ds is all → Comes is all
  comes _ _ NoCalls = none_come
  comes _ _ (OfPrimitive i rest all none e) = primitive_comes i rest all none (comes rest all e)
  comes _ _ (OfAction i rest within all a some e f) = action_comes i rest within all a some (comes (body_with i.arguments a) within e) (comes rest all f)

-- Where the nodes' calls expand, the calls come to some primitives.

abbrev SomePrimitives : List Decl → List Invocation → Type 0
SomePrimitives ds is = (all : List Invocation) × CallsExpand ds is all

abbrev ComeFrom : List Decl → List ℕ → Type 0
ComeFrom ds ns = (is : List Invocation) → called ds is ≡ ns → SomePrimitives ds is

primitive_first : (ds : List Decl) (i : Invocation) (rest : List Invocation) → callee_number ds i ≡ None → SomePrimitives ds rest → SomePrimitives ds (i ∷ rest)
primitive_first ds i rest is h = (i ∷ h.0, OfPrimitive i rest h.0 (ap (option_and_then (slice_get (actions ds))) is) h.1)

action_first : (ds : List Decl) (i : Invocation) (rest : List Invocation) (n : ℕ) → callee_number ds i ≡ Some n → ComeFrom ds (successors (action_graph ds) n) → SomePrimitives ds rest → SomePrimitives ds (i ∷ rest)
action_first ds i rest n is inner h =
    let f = get_within (actions ds) n (action_within ds i.callee n is) in
    let within = inner (body_with i.arguments f.0) (same_called ds i.arguments (invocations_of f.0) ∙ sym (at_row (called_in ds) (actions ds) n f.0 f.1)) in
    (within.0 ++ h.0, OfAction i rest within.0 h.0 f.0 (ap (option_and_then (slice_get (actions ds))) is ∙ f.1) within.1 h.1)

none_first : (ds : List Decl) (i : Invocation) (rest : List Invocation) (o : Option ℕ) → callee_number ds i ≡ o → cons_option o (called ds rest) ≡ [] → (called ds rest ≡ [] → SomePrimitives ds rest) → SomePrimitives ds (i ∷ rest)
none_first ds i rest None is e more = primitive_first ds i rest is (more e)
none_first ds i rest (Some n) is e more = absurd (cc e)

from_none : (ds : List Decl) → ComeFrom ds []
from_none ds [] e = ([], NoCalls)
from_none ds (i ∷ rest) e = none_first ds i rest (callee_number ds i) refl e (from_none ds rest)

call_first : (ds : List Decl) (n : ℕ) (ns : List ℕ) (i : Invocation) (rest : List Invocation) (o : Option ℕ) → callee_number ds i ≡ o → cons_option o (called ds rest) ≡ n ∷ ns → ComeFrom ds (successors (action_graph ds) n) → ComeFrom ds ns → (called ds rest ≡ n ∷ ns → SomePrimitives ds rest) → SomePrimitives ds (i ∷ rest)
call_first ds n ns i rest None is e inner more again = primitive_first ds i rest is (again e)
call_first ds n ns i rest (Some k) is e inner more again =
    action_first ds i rest n (is ∙ ap Some (cc e)) inner (more rest (cc e))

from_call : (ds : List Decl) (n : ℕ) (ns : List ℕ) → ComeFrom ds (successors (action_graph ds) n) → ComeFrom ds ns → ComeFrom ds (n ∷ ns)
from_call ds n ns inner more [] e = absurd (cc e)
from_call ds n ns inner more (i ∷ rest) e =
    call_first ds n ns i rest (callee_number ds i) refl e inner more (from_call ds n ns inner more rest)

come_from : (ds : List Decl) (ns nodes : List ℕ) → calls.Expands (action_graph ds) ns nodes → ComeFrom ds ns
come_from ds _ _ calls.Nothing = from_none ds
come_from ds _ _ (calls.Call n rest nodes more e f) = from_call ds n rest (come_from ds (successors (action_graph ds) n) nodes e) (come_from ds rest more f)

-- counts that are cut off at 1

cut_sum : (f g : ℕ → ℕ) → ((n : ℕ) → f n ≡ min 1 (g n)) → (ns : List ℕ) → min 1 (sum_by f ns) ≡ min 1 (sum_by g ns)
cut_sum f g same [] = refl
cut_sum f g same (n ∷ ns) =
    let a : sum_by f (n ∷ ns) ≡ f n + sum_by f ns = sum_by-cons f n ns in
    let b : sum_by g (n ∷ ns) ≡ g n + sum_by g ns = sum_by-cons g n ns in
    let c : f n ≡ min 1 (g n) = same n in
    let d : min 1 (sum_by f ns) ≡ min 1 (sum_by g ns) = cut_sum f g same ns in
    omega arith

abbrev one_if : Bool → ℕ
one_if b = cond b 1 0

or_one : (a b : Bool) → one_if (a || b) ≡ min 1 (one_if a + one_if b)
or_one true true = refl
or_one true false = refl
or_one false true = refl
or_one false false = refl

any_sum : (p : Invocation → Bool) (is : List Invocation) → one_if (list_any p is) ≡ min 1 (sum_by (λ i. one_if (p i)) is)
any_sum p [] = refl
any_sum p (i ∷ is) =
    let a : sum_by (λ x. one_if (p x)) (i ∷ is) ≡ one_if (p i) + sum_by (λ x. one_if (p x)) is = sum_by-cons (λ x. one_if (p x)) i is in
    let b = any_sum p is in
    let c = or_one (p i) (list_any p is) in
    omega arith

over_one : (b : Bool) (n : ℕ) → n ≡ one_if b → nat_lt 0 n ≡ b
over_one true n e = lt-ltb 0 n (omega arith)
over_one false n e = ap (nat_lt 0) e

module _ (ds : List Decl) (primitives : List Name) where
  row_there : (xs : List Action) (n : ℕ) → get_or (own_requests ds primitives (map invocations_of xs)) n 0 ≡ min 1 (row_in ds primitives (slice_get xs n))
  row_there [] n = refl
  row_there (x ∷ xs) zero = any_sum (is_request ds primitives) (invocations_of x)
  row_there (x ∷ xs) (suc n) = row_there xs n

  row_is : (n : ℕ) → get_or (own_requests ds primitives (all_calls ds)) n 0 ≡ min 1 (row ds primitives n)
  row_is n = row_there (actions ds) n

  node_within : (n : ℕ) → n < length (actions ds) → n < length (action_graph ds)
  node_within n lt = let same : length (action_graph ds) ≡ length (actions ds) = length-map (actions ds) (called_in ds) in omega arith

  module _ (sizes : List ℕ) (known : AreSizes (action_graph ds) (own_requests ds primitives (all_calls ds)) 1 sizes) where
    -- the size of an action says whether it comes to a request
    size_is : (n : ℕ) (a : Action) (all : List Invocation) → slice_get (actions ds) n ≡ Some a → CallsExpand ds (invocations_of a) all → nat_lt 0 (slice_index sizes n) ≡ list_any (is_call_of primitives) all
    size_is n a all there e =
        let h = comes ds primitives (invocations_of a) all e in
        let row_at : successors (action_graph ds) n ≡ called ds (invocations_of a) = at_row (called_in ds) (actions ds) n a there in
        let lt = node_within n (there_within (actions ds) n a there) in
        let size : slice_index sizes n ≡ min 1 (size_of (own_requests ds primitives (all_calls ds)) (n ∷ h.nodes)) = known.size n h.nodes lt (subst (λ ns. calls.Expands (action_graph ds) ns h.nodes) (sym row_at) h.expands) in
        let cut : min 1 (sum_by (slice_index (own_requests ds primitives (all_calls ds))) (n ∷ h.nodes)) ≡ min 1 (sum_by (row ds primitives) (n ∷ h.nodes)) = cut_sum (slice_index (own_requests ds primitives (all_calls ds))) (row ds primitives) row_is (n ∷ h.nodes) in
        let b : sum_by (row ds primitives) (n ∷ h.nodes) ≡ row ds primitives n + sum_by (row ds primitives) h.nodes = sum_by-cons (row ds primitives) n h.nodes in
        let r : row ds primitives n ≡ sum_by (own ds primitives) (invocations_of a) = ap (row_in ds primitives) there in
        let d : sum_by (weight ds primitives) all ≡ sum_by (own ds primitives) (invocations_of a) + sum_by (row ds primitives) h.nodes = h.count in
        let any = any_sum (is_call_of primitives) all in
        over_one (list_any (is_call_of primitives) all) (slice_index sizes n)
        (size ∙ (cut ∙ (ap (min 1) (b ∙ (ap (λ m. m + sum_by (row ds primitives) h.nodes) r ∙ sym d)) ∙ sym any)))

    some_all : (n : ℕ) (a : Action) → slice_get (actions ds) n ≡ Some a → (all : List Invocation) × ActionExpands ds n all
    some_all n a there =
        let lt = node_within n (there_within (actions ds) n a there) in
        let e = known.expands n lt in
        let h = come_from ds (successors (action_graph ds) n) e.0 e.1 (invocations_of a) (sym (at_row (called_in ds) (actions ds) n a there)) in
        (h.0, record { action = a; numbered = there; expands = h.1 })

    -- the names that a table lists

    abbrev Requested : List Name → Type 0
    Requested names = (n : ℕ) × (all : List Invocation) × Among n (filter_map (action_number ds) names) × ActionExpands ds n all × IsTrue (list_any (is_call_of primitives) all)

    later : (name : Name) (names : List Name) → Requested names → Requested (name ∷ names)
    later name names (n, all, a, e, f) = (n, all, behind (action_number ds name) a, e, f) where
      behind : (o : Option ℕ) → Among n (filter_map (action_number ds) names) → Among n (cons_option o (filter_map (action_number ds) names))
      behind None h = h
      behind (Some m) h = inr h

    at_first : (name : Name) (names : List Name) (o : Option ℕ) → action_number ds name ≡ o → option_map_or (λ n. nat_lt 0 (slice_index sizes n)) o false ≡ true → Requested (name ∷ names)
    at_first name names None is e = absurd (cc e)
    at_first name names (Some n) is e =
        let f = get_within (actions ds) n (action_within ds name n is) in
        let all = some_all n f.0 f.1 in
        (n, all.0, subst (λ (o : Option ℕ). Among n (cons_option o (filter_map (action_number ds) names))) (sym is) (inl refl), all.1, sym (size_is n f.0 all.0 f.1 (expands_of n f.0 f.1 all.0 all.1)) ∙ e)
      where
        expands_of : (m : ℕ) (a : Action) → slice_get (actions ds) m ≡ Some a → (all : List Invocation) → ActionExpands ds m all → CallsExpand ds (invocations_of a) all
        expands_of m a there all h = let same : h.action ≡ a = cc (h.numbered, there) in subst (λ (x : Action). CallsExpand ds (invocations_of x) all) same h.expands

    by_first : (name : Name) (names : List Name) (b : Bool) → names_request ds sizes name ≡ b → (b || list_any (names_request ds sizes) names) ≡ true → (list_any (names_request ds sizes) names ≡ true → Requested names) → Requested (name ∷ names)
    by_first name names true is e more = at_first name names (action_number ds name) refl is
    by_first name names false is e more = later name names (more e)

    requested : (names : List Name) → list_any (names_request ds sizes) names ≡ true → Requested names
    requested [] e = absurd (cc e)
    requested (name ∷ names) e = by_first name names (names_request ds sizes name) refl e (requested names)

    or_true : (a b : Bool) → b ≡ true → (a || b) ≡ true
    or_true true b e = refl
    or_true false b e = e

    is_first : (name : Name) (names : List Name) (n : ℕ) → action_number ds name ≡ Some n → nat_lt 0 (slice_index sizes n) ≡ true → (names_request ds sizes name || list_any (names_request ds sizes) names) ≡ true
    is_first name names n is e =
        ap (λ o. option_map_or (λ m. nat_lt 0 (slice_index sizes m)) o false || list_any (names_request ds sizes) names) is
        ∙ ap (λ b. b || list_any (names_request ds sizes) names) e

    request_at : (n : ℕ) (names : List Name) → nat_lt 0 (slice_index sizes n) ≡ true → Among n (filter_map (action_number ds) names) → list_any (names_request ds sizes) names ≡ true
    request_at n [] e a = absurd a
    request_at n (name ∷ names) e a = by_option (action_number ds name) refl a (request_at n names e) where
      by_option : (o : Option ℕ) → action_number ds name ≡ o → Among n (cons_option o (filter_map (action_number ds) names)) → (Among n (filter_map (action_number ds) names) → list_any (names_request ds sizes) names ≡ true) → (names_request ds sizes name || list_any (names_request ds sizes) names) ≡ true
      by_option None is h more = or_true (names_request ds sizes name) (list_any (names_request ds sizes) names) (more h)
      by_option (Some m) is (inl same) more = is_first name names n (is ∙ ap Some (sym same)) e
      by_option (Some m) is (inr h) more = or_true (names_request ds sizes name) (list_any (names_request ds sizes) names) (more h)

    listed_is : (t : ℕ) → (list_any (names_request ds sizes) (listed_by ds t) ≡ true) ↔ ListsRequest ds t primitives
    listed_is t = (
      λ e. let r = requested (listed_by ds t) e in
          record { action = r.0; all = r.1; listed = contains r.0 (filter_map (action_number ds) (listed_by ds t)) r.2; expands = r.3; called = r.4 },
      λ h. request_at h.action (listed_by ds t) (size_is h.action h.expands.action h.all h.expands.numbered h.expands.expands ∙ h.called)
          (among h.action (filter_map (action_number ds) (listed_by ds t)) h.listed),
    )

    marks_there : (ts : List Table) (t : ℕ) → get_or (map (lists_request ds sizes) ts) t false ≡ list_any (names_request ds sizes) (option_map_or listed_in (slice_get ts t) [])
    marks_there [] t = refl
    marks_there (x ∷ ts) zero = refl
    marks_there (x ∷ ts) (suc t) = marks_there ts t

    pub are_listed : AreListed ds primitives (tables_with_requests ds sizes)
    are_listed = record {
      each = length-map (tables ds) (lists_request ds sizes);
      exact = λ t lt.
          let at = marks_there (tables ds) t in
          let is = listed_is t in
          (λ e. is.0 (sym at ∙ e), λ h. at ∙ is.1 h);
    }

-- cycles

called_there : (ds : List Decl) (xs : List Action) (n : ℕ) → get_or (map (called_in ds) xs) n [] ≡ option_map_or (called_in ds) (slice_get xs n) []
called_there ds [] n = refl
called_there ds (x ∷ xs) zero = refl
called_there ds (x ∷ xs) (suc n) = called_there ds xs n

called_is : (ds : List Decl) (n : ℕ) → successors (action_graph ds) n ≡ actions_called_by ds n
called_is ds n = called_there ds (actions ds) n

edge_from : (ds : List Decl) (a b : ℕ) → IsEdge (action_graph ds) a b → Contains (actions_called_by ds a) b
edge_from ds a b h = contains b (actions_called_by ds a) (subst (Among b) (called_is ds a) h)

walk_from : (ds : List Decl) (c a : ℕ) → WalkTo (action_graph ds) c a → (between : List ℕ) × IsWalk (actions_called_by ds) (a ∷ between ++ c ∷ [])
walk_from ds c a (Edge _ e) = ([], (edge_from ds a c e, _))
walk_from ds c a (Onward _ b e w) = let h = walk_from ds c b w in (b ∷ h.0, (edge_from ds a b e, h.1))

pub calls_itself : (ds : List Decl) → HasCycle (action_graph ds) → ActionCallsItself ds
calls_itself ds (a, cycle) = let h = walk_from ds a a cycle in (a, h.0, h.1)

number_below : (ds : List Decl) (b : ℕ) (is : List Invocation) → Among b (called ds is) → b < length (actions ds)
number_below ds b [] a = absurd a
number_below ds b (i ∷ is) a = by_first (number_below ds b is) (callee_number ds i) refl a where
  by_first : (Among b (called ds is) → b < length (actions ds)) → (o : Option ℕ) → callee_number ds i ≡ o → Among b (cons_option o (called ds is)) → b < length (actions ds)
  by_first more None is_none h = more h
  by_first more (Some n) at (inl e) = action_within ds i.callee b (at ∙ ap Some (sym e))
  by_first more (Some n) at (inr h) = more h

called_below : (ds : List Decl) (b : ℕ) (o : Option Action) → Among b (option_map_or (called_in ds) o []) → b < length (actions ds)
called_below ds b None a = absurd a
called_below ds b (Some x) a = number_below ds b (invocations_of x) a

pub closed : (ds : List Decl) → IsClosed (action_graph ds)
closed ds =
    record {
      within = λ a b edge. let h = called_below ds b (slice_get (actions ds) a) (subst (Among b) (called_is ds a) edge) in
          let same : length (action_graph ds) ≡ length (actions ds) = length-map (actions ds) (called_in ds) in omega arith;
    }

-- a table that lists a request is there
pub listed_within : (ds : List Decl) (t : ℕ) (primitives : List Name) → ListsRequest ds t primitives → t < length (tables ds)
listed_within ds t primitives h = by_table (slice_get (tables ds) t) refl (among h.action _ h.listed) where
  by_table : (o : Option Table) → slice_get (tables ds) t ≡ o → Among h.action (filter_map (action_number ds) (option_map_or listed_in o [])) → t < length (tables ds)
  by_table None is a = absurd a
  by_table (Some x) is a = there_within (tables ds) t x is
