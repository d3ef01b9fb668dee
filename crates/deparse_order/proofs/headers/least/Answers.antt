use Rattle.std.proofs.Common.{◌∙◌, List, length, ap, arith}
use Rattle.std.proofs.lemmas.List.{length-map}
use Rattle.parse_graph.specs.declared.nodes.StateNode.{StateNode}
use Rattle.parse_graph.specs.Graphs.{extracts_in, next_in}
use Rattle.deparse_order.specs.Orders.{next_lists, extract_lists}
use Rattle.deparse_order.proofs.ListLaws.{closed_next, least_is, none_is}
use Rattle.deparse_order.proofs.headers.least.Goals as goal

pub least_order-requires-clause-closed : goal.least_order-requires-clause-closed
least_order-requires-clause-closed c =
    closed_next c.args.graph.now.states c.in_ok-edges.edges c.requires.whole (c.in_ok-edges.ensures ∙ ap (λ (s : List StateNode). next_lists s) c.as_slice-states.ensures)

pub least_order-requires-clause-each : goal.least_order-requires-clause-each
least_order-requires-clause-each c =
    let lists = ap length (c.as_slice.ensures.value ∙ c.in_ok-lists.ensures) in
    let edges = ap length c.in_ok-edges.ensures in
    let many = length-map c.as_slice-states.result.now extracts_in in
    let same = length-map c.as_slice-states.result.now next_in in
    omega (arith, lists, edges, many, same)

pub least_order-requires-clause-start : goal.least_order-requires-clause-start
least_order-requires-clause-start c =
    let edges = ap length c.in_ok-edges.ensures in
    let same = length-map c.as_slice-states.result.now next_in in
    let states = ap length c.as_slice-states.ensures in
    omega (arith, c.requires.start, edges, same, states)

pub returns-in-None : goal.returns-in-None
returns-in-None c =
    none_is c.args.graph.now c.in_ok-edges.edges c.as_slice.result.now (c.in_ok-edges.ensures ∙ ap (λ (s : List StateNode). next_lists s) c.as_slice-states.ensures)
    (c.as_slice.ensures.value ∙ (c.in_ok-lists.ensures ∙ ap (λ (s : List StateNode). extract_lists s) c.as_slice-states.ensures)) (rw c.in-None.is at c.in_ok-least_order.ensures)

pub returns : goal.returns
returns c =
    least_is c.args.graph.now c.in_ok-edges.edges c.as_slice.result.now c.in-Some.order.items c.in_ok-narrowed-in-Some.field-0 (c.in_ok-edges.ensures ∙ ap (λ (s : List StateNode). next_lists s) c.as_slice-states.ensures)
    (c.as_slice.ensures.value ∙ (c.in_ok-lists.ensures ∙ ap (λ (s : List StateNode). extract_lists s) c.as_slice-states.ensures))
    (c.in_ok-narrowed-in-Some.ensures ∙ c.as_slice-in-Some.ensures.value) (rw c.in-Some.is at c.in_ok-least_order.ensures)
