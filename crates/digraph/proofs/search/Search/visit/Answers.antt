use Rattle.std.proofs.Common.{sym, subst}
use Rattle.digraph.specs.internal.Search.{IsListed, IsVisit, led_by}
use Rattle.digraph.proofs.Visiting.{root_visit, visit_on, left_turn}
use Rattle.digraph.proofs.Listing.{listed_under}
use Rattle.digraph.proofs.search.Search.visit.Goals as goal

pub loop-frame-init : goal.loop-frame-init
loop-frame-init c =
    subst (λ s. IsVisit c.args.graph.now c.args.self.now s c.args.root) (sym c.in_ok-come_to.ensures)
    (root_visit c.args.graph.now c.args.self.now c.args.root c.requires.searching c.requires.listed c.requires.ended c.requires.root)

pub take_edge-requires-clause-listed : goal.take_edge-requires-clause-listed
take_edge-requires-clause-listed c =
    listed_under c.next_frame.new.self c.in-Some.frame (subst IsListed c.in-Some.ensures c.loop-frame.invariant.listed)

pub loop-frame-preserved-in-Continue-branch-2 : goal.loop-frame-preserved-in-Continue-branch-2
loop-frame-preserved-in-Continue-branch-2 c =
    let v = subst (λ s. IsVisit c.args.graph.now c.args.self.now s c.args.root) c.in-Some.ensures c.loop-frame.invariant in
    visit_on c.args.graph.now c.args.self.now (led_by c.in-Some.frame c.next_frame.new.self) c.leave.new.self c.args.root v
    (left_turn c.args.graph.now c.in-Some.frame c.next_frame.new.self c.leave.new.self v.searching (listed_under c.next_frame.new.self c.in-Some.frame v.listed) c.if-frame-eq0.true c.in_ok-leave.ensures)
