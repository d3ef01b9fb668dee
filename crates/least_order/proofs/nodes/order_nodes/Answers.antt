use Rattle.std.proofs.Common.{◌∙◌, List, ℕ, Option, sym, subst, arith}
use Rattle.least_order.specs.internal.Listing.{IsMarked}
use Rattle.least_order.specs.internal.Quotients.{AreMarks}
use Rattle.least_order.proofs.Heading.{pair_none, marked, least_of_nodes}
use Rattle.least_order.proofs.nodes.order_nodes.Goals as goal

pub marks-requires-clause-each : goal.marks-requires-clause-each
marks-requires-clause-each c = omega (arith, c.in_ok-components.ensures.each, c.requires.each)

pub marks-requires-clause-below : goal.marks-requires-clause-below
marks-requires-clause-below c a lt = c.in_ok-components.ensures.below a (omega (arith, lt, c.requires.each))

pub returns-in_default : goal.returns-in_default
returns-in_default c = pair_none c.args.graph.now c.in_ok-components.components c.requires.closed c.in_ok-components.ensures c.args.is_listed.now c.requires.each (rw c.in_default.is at c.in_ok-marks.ensures)

pub list_marks-requires : goal.list_marks-requires
list_marks-requires c =
    subst (λ (homes : List ℕ). IsMarked c.in_ok-edges.edges c.deref.result.now homes) (sym (c.deref-2.ensures.value ∙ c.in_ok-numbers.ensures))
    (marked c.args.graph.now c.in_ok-components.components c.requires.closed c.in_ok-components.ensures c.args.is_listed.now c.requires.each c.in_ok-edges.edges c.deref.result.now c.in_ok-edges.ensures
    (subst (λ (marks : List (Option ℕ)). AreMarks c.in_ok-components.components c.args.is_listed.now marks) (sym c.deref.ensures.value) (rw c.in-Some.is at c.in_ok-marks.ensures)))

pub returns : goal.returns
returns c =
    least_of_nodes c.args.graph.now c.in_ok-components.components c.requires.closed c.in_ok-components.ensures c.args.is_listed.now c.requires.each c.in_ok-edges.edges c.deref.result.now c.in_ok-edges.ensures
    (subst (λ (marks : List (Option ℕ)). AreMarks c.in_ok-components.components c.args.is_listed.now marks) (sym c.deref.ensures.value) (rw c.in-Some.is at c.in_ok-marks.ensures))
    c.in_ok-order.order.items c.in_ok-order.ensures
