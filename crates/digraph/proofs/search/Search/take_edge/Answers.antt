use Rattle.std.proofs.Common.{◌≡◌, ◌∙◌, ℕ, ◌-◌, ◌<◌, ◌≤◌, ap, subst, length, get_or, slice_get, Some, List, arith}
use Rattle.std.proofs.lemmas.Option.{slice_get-get_or}
use Rattle.std.proofs.lemmas.Result.{on_ok_weaker}
use Rattle.digraph.specs.Graphs.{successors}
use Rattle.digraph.specs.internal.Search.{State, led_by, came_to}
use Rattle.digraph.proofs.Visiting.{took_edge_of}
use Rattle.digraph.proofs.Listing.{among_at}
use Rattle.digraph.proofs.search.Search.take_edge.Goals as goal

-- the last edge that is left
edge_at : (xs ys : List ℕ) (left : ℕ) → xs ≡ ys → 0 < left → left ≤ length ys → slice_get ys (left - 1) ≡ Some (get_or xs (left - 1) 0)
edge_at xs ys left e more le =
    let within = ap length e in
    subst (λ zs. slice_get zs (left - 1) ≡ Some (get_or xs (left - 1) 0)) e (slice_get-get_or xs (left - 1) 0 (omega (arith, within)))

pub come_to-requires-clause-node : goal.come_to-requires-clause-node
come_to-requires-clause-node c =
    c.requires.closed.within c.args.frame.node _ (among_at (successors c.args.graph.now c.args.frame.node) (c.args.frame.left - 1) _ (edge_at c.successors.result.now (successors c.args.graph.now c.args.frame.node) c.args.frame.left c.successors.ensures c.requires.left c.requires.searching.path.3))

pub come_to-requires-clause-marks : goal.come_to-requires-clause-marks
come_to-requires-clause-marks c =
    let lt = c.requires.closed.within c.args.frame.node _ (among_at (successors c.args.graph.now c.args.frame.node) (c.args.frame.left - 1) _ (edge_at c.successors.result.now (successors c.args.graph.now c.args.frame.node) c.args.frame.left c.successors.ensures c.requires.left c.requires.searching.path.3)) in
    let same = ap (λ (s : State). length s.marks) c.self.view_is in
    omega (arith, lt, same, c.requires.searching.size)

pub returns : goal.returns
returns c =
    on_ok_weaker c.come_to.result
    (λ e. took_edge_of c.args.graph.now c.args.frame (get_or c.successors.result.now (c.args.frame.left - 1) 0) c.args.self.now c.come_to.new.self
    c.requires.closed c.requires.searching c.requires.listed c.requires.left
    (edge_at c.successors.result.now (successors c.args.graph.now c.args.frame.node) c.args.frame.left c.successors.ensures c.requires.left c.requires.searching.path.3)
    (e ∙ (ap (λ path. let s : State = record { marks = c.self.inside.marks.items; waiting = c.self.inside.waiting; begins = c.self.inside.begins; path = path; order = c.self.inside.order.items; count = c.self.inside.count } in
    came_to s (get_or c.successors.result.now (c.args.frame.left - 1) 0) (length (successors c.args.graph.now (get_or c.successors.result.now (c.args.frame.left - 1) 0)))) c.in_ok-push.ensures
    ∙ ap (λ (s : State). came_to (led_by (record { node = c.args.frame.node; left = c.args.frame.left - 1 }) s) (get_or c.successors.result.now (c.args.frame.left - 1) 0) (length (successors c.args.graph.now (get_or c.successors.result.now (c.args.frame.left - 1) 0)))) c.self.view_is)))
    c.come_to.ensures
