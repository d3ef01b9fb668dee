-- A node lies on a cycle where an edge leads from it to a node of its own component.
use Rattle.std.proofs.Common.{◌≡◌, ℕ, List, get_or}
use Rattle.digraph.specs.Graphs.{IsEdge, IsClosed, OnCycle}
use Rattle.digraph.specs.Components.{Condensation, AreComponents}
use Rattle.digraph.proofs.Walking.{edge_on, edge_within, first_edge, reaches_by_edge}

pub on_cycle : (g : List (List ℕ)) (c : Condensation) (a b : ℕ) → IsClosed g → AreComponents g c → IsEdge g a b → get_or c.numbers b 0 ≡ get_or c.numbers a 0 → OnCycle g a
on_cycle g c a b closed_g h edge same =
    edge_on g a b a edge ((h.same b a (closed_g.within a b edge) (edge_within g a b edge)).0 same).0

-- the successor through which a cycle leads back
pub back_on_cycle : (g : List (List ℕ)) (c : Condensation) (a : ℕ) → IsClosed g → AreComponents g c → OnCycle g a → (b : ℕ) × IsEdge g a b × (get_or c.numbers b 0 ≡ get_or c.numbers a 0)
back_on_cycle g c a closed_g h cycle =
    let f = first_edge g a a cycle in
    (f.0, f.1, (h.same f.0 a (closed_g.within a f.0 f.1) (edge_within g a f.0 f.1)).1 (f.2, reaches_by_edge g a f.0 f.1))
