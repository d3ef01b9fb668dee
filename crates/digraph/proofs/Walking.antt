-- Walks put behind each other.
use Rattle.std.proofs.Common.{ℕ, ◌<◌, inl, inr, ⊎_elim, List, [], length, refl, sym, subst}
use Rattle.std.proofs.lemmas.Bool.{cases_lt}
use Rattle.std.proofs.lemmas.List.{get_or_past}
use Rattle.digraph.specs.Graphs.{Among, IsEdge, Edge, Onward, Walk, Reaches}

pub walk_on : (g : List (List ℕ)) (b c a : ℕ) → Walk g a b → Walk g b c → Walk g a c
walk_on g b c a (Edge e h) more = Onward a b h more
walk_on g b c a (Onward e d h rest) more = Onward a d h (walk_on g b c d rest more)

pub reaches_on : (g : List (List ℕ)) (a b c : ℕ) → Reaches g a b → Reaches g b c → Reaches g a c
reaches_on g a b c (inl e) more = subst (λ x. Reaches g x c) (sym e) more
reaches_on g a b c (inr walk) (inl e) = inr (subst (λ x. Walk g a x) e walk)
reaches_on g a b c (inr walk) (inr more) = inr (walk_on g b c a walk more)

pub reaches_by_edge : (g : List (List ℕ)) (a b : ℕ) → IsEdge g a b → Reaches g a b
reaches_by_edge g a b h = inr (Edge a h)

-- an edge, and what leads on from its target
pub edge_on : (g : List (List ℕ)) (a b c : ℕ) → IsEdge g a b → Reaches g b c → Walk g a c
edge_on g a b c h (inl e) = Edge a (subst (λ x. IsEdge g a x) e h)
edge_on g a b c h (inr walk) = Onward a b h walk

-- the first edge of a walk
pub first_edge : (g : List (List ℕ)) (c a : ℕ) → Walk g a c → (b : ℕ) × IsEdge g a b × Reaches g b c
first_edge g c a (Edge e h) = (c, h, inl refl)
first_edge g c a (Onward e b h rest) = (b, h, inr rest)

-- edges lead from nodes of the graph
pub edge_within : (g : List (List ℕ)) (a b : ℕ) → IsEdge g a b → a < length g
edge_within g a b i = ⊎_elim (λ lt. lt) (λ le. absurd (subst (λ xs. Among b xs) (get_or_past g a [] le) i)) (cases_lt a (length g))
