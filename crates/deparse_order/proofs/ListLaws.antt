-- The lists of a graph's states.
use Rattle.std.proofs.Common.{◌≡◌, ℕ, zero, suc, List, [], ◌∷◌, refl, sym, subst, arith}
use Rattle.std.proofs.lemmas.List.{length-map}
use Rattle.digraph.specs.Graphs.{Among, successors, IsClosed}
use Rattle.least_order.specs.Labelled as labelled
use Rattle.least_order.specs.Orders.{HasNoOrder, IsLeastOrder}
use Rattle.parse_graph.specs.declared.nodes.Graph.{Graph}
use Rattle.parse_graph.specs.declared.nodes.StateNode.{StateNode}
use Rattle.parse_graph.specs.Graphs.{next_in, next_at, IsWhole}
use Rattle.deparse_order.specs.Orders.{next_lists, extract_lists, IsExtracted, IsBefore}
use Rattle.deparse_order.proofs.Splitting.{contains_of}

next_list : (states : List StateNode) (a : ℕ) → successors (next_lists states) a ≡ next_at states a
next_list [] zero = refl
next_list [] (suc a) = refl
next_list (x ∷ states) zero = refl
next_list (x ∷ states) (suc a) = next_list states a

pub closed_next : (states : List StateNode) (edges : List (List ℕ)) → IsWhole states → edges ≡ next_lists states → IsClosed edges
closed_next states edges whole is =
    subst (λ (g : List (List ℕ)). IsClosed g) (sym is)
    (record {
      within = λ a b edge.
          let lt = whole.within a b (contains_of (next_at states a) b (subst (λ (xs : List ℕ). Among b xs) (next_list states a) edge)) in
          let each = length-map states next_in in
          omega (arith, lt, each);
    })

-- the answer on the lists is the answer on the graph
pub least_is : (g : Graph) (edges lists : List (List ℕ)) (order narrow : List ℕ) → edges ≡ next_lists g.states → lists ≡ extract_lists g.states → narrow ≡ order
    → IsLeastOrder (labelled.IsFound edges lists g.start) (labelled.IsBefore edges lists g.start) order → IsLeastOrder (IsExtracted g) (IsBefore g) narrow
least_is g edges lists order narrow edges_are lists_are same least =
    subst (λ (o : List ℕ). IsLeastOrder (IsExtracted g) (IsBefore g) o) (sym same)
    (subst (λ (ls : List (List ℕ)). IsLeastOrder (labelled.IsFound (next_lists g.states) ls g.start) (labelled.IsBefore (next_lists g.states) ls g.start) order) lists_are
    (subst (λ (es : List (List ℕ)). IsLeastOrder (labelled.IsFound es lists g.start) (labelled.IsBefore es lists g.start) order) edges_are least))

pub none_is : (g : Graph) (edges lists : List (List ℕ)) → edges ≡ next_lists g.states → lists ≡ extract_lists g.states
    → HasNoOrder (labelled.IsFound edges lists g.start) (labelled.IsBefore edges lists g.start) → HasNoOrder (IsExtracted g) (IsBefore g)
none_is g edges lists edges_are lists_are none =
    subst (λ (ls : List (List ℕ)). HasNoOrder (labelled.IsFound (next_lists g.states) ls g.start) (labelled.IsBefore (next_lists g.states) ls g.start)) lists_are
    (subst (λ (es : List (List ℕ)). HasNoOrder (labelled.IsFound es lists g.start) (labelled.IsBefore es lists g.start)) edges_are none)
