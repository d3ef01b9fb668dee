-- Cycles of states that extract nothing are the cycles of the graph of these states.
use Rattle.std.proofs.Common.{◌≡◌, ℕ, zero, suc, ◌<◌, ◌≤◌, ◌==◌, Bool, true, false, cond, inl, inr, List, [], ◌∷◌, ◌++◌, length, map, filter, flat_map, get_or, Contains, All, take, refl, sym, ◌∙◌, ap, subst, arith}
use Rattle.std.proofs.lemmas.Bool.{eqb-true}
use Rattle.std.proofs.lemmas.List.{length-map, take_all}
use Rattle.std.proofs.lemmas.List.Concat.{flat_map-cons}
use Rattle.digraph.specs.Graphs.{Among, successors, IsEdge, WalkTo, OnCycle, IsLeastOnCycle, IsClosed}
use Rattle.digraph.specs.Graphs.WalkTo.{Edge, Onward}
use Rattle.digraph.proofs.Members.{among_place, place_among}
use Rattle.p414_syntax.specs.Walks.{IsWalk}
use Rattle.parse_graph.specs.declared.nodes.StateNode.{StateNode}
use Rattle.parse_graph.specs.Graphs.{extracts_at, next_at, IsWhole, IsIdle, IsLeastIdle}
use Rattle.parse_graph.specs.internal.IdleEdges.{is_none, extracts_none, idle_next, idle_graph}

contains_of : (xs : List ℕ) (x : ℕ) → Among x xs → Contains xs x
contains_of xs x among = place_among xs x x among

among_of : (xs : List ℕ) (x : ℕ) → Contains xs x → Among x xs
among_of xs x has = subst (λ (y : ℕ). Among y xs) has.2 (among_place xs has.0 x has.1)

-- what passes a test
kept_by : (b : Bool) (p : ℕ → Bool) (x : ℕ) (xs rest : List ℕ) (y : ℕ) → p x ≡ b → Among y (cond b (x ∷ rest) rest) → (Among y rest → Among y xs × (p y ≡ true)) → Among y (x ∷ xs) × (p y ≡ true)
kept_by true p x xs rest y is (inl same) more = (inl same, subst (λ (z : ℕ). p z ≡ true) (sym same) is)
kept_by true p x xs rest y is (inr behind) more = let found = more behind in (inr found.0, found.1)
kept_by false p x xs rest y is behind more = let found = more behind in (inr found.0, found.1)

pub kept_among : (p : ℕ → Bool) (xs : List ℕ) (y : ℕ) → Among y (filter p xs) → Among y xs × (p y ≡ true)
kept_among p [] y among = absurd among
kept_among p (x ∷ xs) y among = kept_by (p x) p x xs (filter p xs) y refl among (kept_among p xs y)

among_by : (b : Bool) (p : ℕ → Bool) (x : ℕ) (xs rest : List ℕ) (y : ℕ) → p x ≡ b → p y ≡ true → Among y (x ∷ xs) → (Among y xs → Among y rest) → Among y (cond b (x ∷ rest) rest)
among_by true p x xs rest y is passes (inl same) more = inl same
among_by true p x xs rest y is passes (inr behind) more = inr (more behind)
among_by false p x xs rest y is passes (inl same) more = absurd (let never : true ≡ false = sym passes ∙ (ap p same ∙ is) in cc)
among_by false p x xs rest y is passes (inr behind) more = more behind

pub among_kept : (p : ℕ → Bool) (xs : List ℕ) (y : ℕ) → p y ≡ true → Among y xs → Among y (filter p xs)
among_kept p [] y passes among = absurd among
among_kept p (x ∷ xs) y passes among = among_by (p x) p x xs (filter p xs) y refl passes among (among_kept p xs y passes)

-- the edges of the graph of idle states
successors_in : (all states : List StateNode) (a : ℕ) → successors (map (idle_next all) states) a ≡ cond (is_none (extracts_at states a)) (filter (extracts_none all) (next_at states a)) []
successors_in all [] zero = refl
successors_in all [] (suc a) = refl
successors_in all (x ∷ states) zero = refl
successors_in all (x ∷ states) (suc a) = successors_in all states a

pub record IdleEdge (states : List StateNode) (a b : ℕ) : Type 0 where
  pub here : extracts_none states a ≡ true
  pub next : Contains (next_at states a) b
  pub there : extracts_none states b ≡ true

edge_by : (states : List StateNode) (a b : ℕ) (e : Bool) → extracts_none states a ≡ e → Among b (cond e (filter (extracts_none states) (next_at states a)) []) → IdleEdge states a b
edge_by states a b true is among =
    let kept = kept_among (extracts_none states) (next_at states a) b among in
    record { here = is; next = contains_of (next_at states a) b kept.0; there = kept.1 }
edge_by states a b false is among = absurd among

pub edge_of : (states : List StateNode) (a b : ℕ) → IsEdge (idle_graph states) a b → IdleEdge states a b
edge_of states a b edge = edge_by states a b (extracts_none states a) refl (subst (λ (l : List ℕ). Among b l) (successors_in states states a) edge)

pub edge_to : (states : List StateNode) (a b : ℕ) → IdleEdge states a b → IsEdge (idle_graph states) a b
edge_to states a b edge =
    subst (λ (l : List ℕ). Among b l) (sym (successors_in states states a ∙ ap (λ (e : Bool). cond e (filter (extracts_none states) (next_at states a)) []) edge.here))
    (among_kept (extracts_none states) (next_at states a) b edge.there (among_of (next_at states a) b edge.next))

-- states that extract nothing
abbrev pub AllIdle : List StateNode → List ℕ → Type 0
AllIdle states [] = Unit {0}
AllIdle states (s ∷ rest) = (extracts_none states s ≡ true) × AllIdle states rest

none_of : (xs : List ℕ) → xs ≡ [] → is_none xs ≡ true
none_of [] is = refl
none_of (x ∷ xs) is = cc

nil_of : (xs : List ℕ) → is_none xs ≡ true → xs ≡ []
nil_of [] is = refl
nil_of (x ∷ xs) is = cc

both_nil : (xs ys : List ℕ) → xs ++ ys ≡ [] → (xs ≡ []) × (ys ≡ [])
both_nil [] ys is = (refl, is)
both_nil (x ∷ xs) ys is = cc

pub all_idle : (states : List StateNode) (walk : List ℕ) → flat_map (extracts_at states) walk ≡ [] → AllIdle states walk
all_idle states [] is = tt
all_idle states (s ∷ walk) is =
    let nil = both_nil (extracts_at states s) (flat_map (extracts_at states) walk) (sym (flat_map-cons (extracts_at states) s walk) ∙ is) in
    (none_of (extracts_at states s) nil.0, all_idle states walk nil.1)

pub idle_extracts : (states : List StateNode) (walk : List ℕ) → AllIdle states walk → flat_map (extracts_at states) walk ≡ []
idle_extracts states [] idle = refl
idle_extracts states (s ∷ walk) idle =
    flat_map-cons (extracts_at states) s walk ∙ rw (nil_of (extracts_at states s) idle.0) (idle_extracts states walk idle.1)

-- walks
pub record Between (states : List StateNode) (a c : ℕ) : Type 0 where
  pub between : List ℕ
  pub walks : IsWalk (next_at states) (a ∷ between ++ c ∷ [])
  pub idle : AllIdle states (a ∷ between)

from_walk : (states : List StateNode) (c a : ℕ) → WalkTo (idle_graph states) c a → Between states a c
from_walk states c a (Edge _ edge) =
    let e = edge_of states a c edge in
    record { between = []; walks = (e.next, tt); idle = (e.here, tt) }
from_walk states c a (Onward _ b edge walk) =
    let e = edge_of states a b edge in
    let rest = from_walk states c b walk in
    record { between = b ∷ rest.between; walks = (e.next, rest.walks); idle = (e.here, rest.idle) }

to_walk : (states : List StateNode) (between : List ℕ) (a c : ℕ) → IsWalk (next_at states) (a ∷ between ++ c ∷ []) → AllIdle states (a ∷ between) → extracts_none states c ≡ true → WalkTo (idle_graph states) c a
to_walk states [] a c walks idle last = Edge a (edge_to states a c (record { here = idle.0; next = walks.0; there = last }))
to_walk states (b ∷ between) a c walks idle last =
    Onward a b (edge_to states a b (record { here = idle.0; next = walks.0; there = idle.1.0 })) (to_walk states between b c walks.1 idle.1 last)

pub on_cycle : (states : List StateNode) (s : ℕ) → IsIdle states s → OnCycle (idle_graph states) s
on_cycle states s idle =
    let all = all_idle states (s ∷ idle.between) idle.idle in
    to_walk states idle.between s s idle.cycle all all.0

pub is_idle : (states : List StateNode) (s : ℕ) → OnCycle (idle_graph states) s → IsIdle states s
is_idle states s cycle =
    let walk = from_walk states s s cycle in
    record { between = walk.between; cycle = walk.walks; idle = idle_extracts states (s ∷ walk.between) walk.idle }

pub closed : (states : List StateNode) → IsWhole states → IsClosed (idle_graph states)
closed states whole = record {
  within = λ a b edge. rw (length-map states (idle_next states)) (whole.within a b (edge_of states a b edge).next);
}

pub least_idle : (states : List StateNode) (s : ℕ) → IsLeastOnCycle (idle_graph states) s → IsLeastIdle states s
least_idle states s least = record {
  is = is_idle states s least.0;
  least = λ t idle. least.1 t (on_cycle states t idle);
}

-- what the return of a state at a place names
next_of_get : (states : List StateNode) (i : ℕ) (d : StateNode) → i < length states → next_at states i ≡ (get_or states i d).next
next_of_get [] i d lt = absurd (omega arith)
next_of_get (x ∷ states) zero d lt = refl
next_of_get (x ∷ states) (suc i) d lt = next_of_get states i d (omega arith)

pub whole_at : (states : List StateNode) (i : ℕ) (d state : StateNode) → IsWhole states → i < length states → state ≡ get_or states i d → All (λ t. t < length states) state.next
whole_at states i d state whole lt is k e within =
    whole.within i (get_or state.next k e)
    (contains_of (next_at states i) (get_or state.next k e)
    (subst (λ (l : List ℕ). Among (get_or state.next k e) l) (sym (next_of_get states i d lt ∙ ap (λ (n : StateNode). n.next) (sym is))) (among_place state.next k e within)))

-- what the nodes of the graph lead to, when all states were added
pub whole_closed : (states : List StateNode) (n : ℕ) (g : List (List ℕ)) → IsWhole states → length states ≤ n → g ≡ map (idle_next states) (take n states) → IsClosed g
whole_closed states n g whole done is =
    subst (λ (h : List (List ℕ)). IsClosed h) (sym (is ∙ ap (λ (l : List StateNode). map (idle_next states) l) (take_all n states done))) (closed states whole)

none_by_length : (xs : List ℕ) → (length xs == 0) ≡ true → is_none xs ≡ true
none_by_length [] is = refl
none_by_length (x ∷ xs) is = absurd (let none = eqb-true (suc (length xs)) 0 is in omega arith)

pub idle_state : (states : List StateNode) (state : StateNode) (extracts : List ℕ) → extracts ≡ state.extracts → (length extracts == 0) ≡ true → idle_next states state ≡ filter (extracts_none states) state.next
idle_state states state extracts same is =
    ap (λ (b : Bool). cond b (filter (extracts_none states) state.next) []) (none_by_length state.extracts (rw same at is))
