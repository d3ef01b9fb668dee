use Rattle.std.proofs.Common.{true, false, set, length, replicate, subst, sym, refl, arith}
use Rattle.digraph.specs.Graphs.{Among}
use Rattle.digraph.proofs.Walking.{edge_within}
use Rattle.least_order.specs.Orders.{IsLeastOrder}
use Rattle.least_order.specs.internal.Listing.{IsMark, MarkReaches}
use Rattle.least_order.proofs.Turns.{is_begun, ready_within, taken_now, next_turn, turn_less, is_ended}
use Rattle.least_order.proofs.listing.list_marks.Goals as goal

pub new-requires : goal.new-requires
new-requires c a b edge =
    let falls = c.requires.falls a b edge in
    let lt = edge_within c.args.edges.now a b edge in
    omega (arith, falls, lt)

pub begin-requires : goal.begin-requires
begin-requires c = omega (arith, c.requires.each, c.in_ok-listing.ensures.each)

pub loop-listing-init : goal.loop-listing-init
loop-listing-init c = (
  replicate (length c.args.edges.now) false,
  is_begun c.args.edges.now c.args.marks.now c.args.homes.now c.requires c.in_ok-listing.listing c.begin.new.self c.in_ok-listing.ensures c.in_ok-begin.ensures,
)

pub next_node-requires : goal.next_node-requires
next_node-requires c x i = ready_within c.args.edges.now c.args.marks.now c.args.homes.now c.requires c.loop-listing.invariant.0 c.loop-listing.listing x c.loop-listing.invariant.1 i

pub of-requires : goal.of-requires
of-requires c = (taken_now c.args.edges.now c.args.marks.now c.args.homes.now c.requires c.loop-listing.invariant.0 c.in-Some.node c.loop-listing.listing c.next_node.new.self (rw c.in-Some.is at c.in_ok-node.ensures) c.loop-listing.invariant.1).within

pub pay_all-requires-clause-owed : goal.pay_all-requires-clause-owed
pay_all-requires-clause-owed c b i =
    let t = taken_now c.args.edges.now c.args.marks.now c.args.homes.now c.requires c.loop-listing.invariant.0 c.in-Some.node c.loop-listing.listing c.next_node.new.self (rw c.in-Some.is at c.in_ok-node.ensures) c.loop-listing.invariant.1 in
    let lt = (t.targets b (subst (λ xs. Among b xs) c.of.ensures i)).0 in
    let each = t.books.len_owed in
    omega (arith, lt, each)

pub pay_all-requires-clause-marks : goal.pay_all-requires-clause-marks
pay_all-requires-clause-marks c b i =
    let t = taken_now c.args.edges.now c.args.marks.now c.args.homes.now c.requires c.loop-listing.invariant.0 c.in-Some.node c.loop-listing.listing c.next_node.new.self (rw c.in-Some.is at c.in_ok-node.ensures) c.loop-listing.invariant.1 in
    let lt = (t.targets b (subst (λ xs. Among b xs) c.of.ensures i)).0 in
    omega (arith, lt, c.requires.each)

pub loop-listing-smaller : goal.loop-listing-smaller
loop-listing-smaller c =
    turn_less c.args.edges.now c.args.marks.now c.args.homes.now c.requires c.loop-listing.invariant.0 c.in-Some.node c.loop-listing.listing c.next_node.new.self c.pay_all.new.self c.of.result.now
    (rw c.in-Some.is at c.in_ok-node.ensures) c.loop-listing.invariant.1 c.of.ensures c.in_ok-pay_all.ensures

pub loop-listing-preserved : goal.loop-listing-preserved
loop-listing-preserved c = (
  set c.loop-listing.invariant.0 c.in-Some.node true,
  next_turn c.args.edges.now c.args.marks.now c.args.homes.now c.requires c.loop-listing.invariant.0 c.in-Some.node c.loop-listing.listing c.next_node.new.self c.pay_all.new.self c.of.result.now
      (rw c.in-Some.is at c.in_ok-node.ensures) c.loop-listing.invariant.1 c.of.ensures c.in_ok-pay_all.ensures,
)

pub returns : goal.returns
returns c =
    subst (λ items. IsLeastOrder (IsMark c.args.edges.now c.args.marks.now) (MarkReaches c.args.edges.now c.args.marks.now) items) (sym c.into_order.ensures)
    (is_ended c.args.edges.now c.args.marks.now c.args.homes.now c.requires c.loop-listing.invariant.0 c.loop-listing.listing c.next_node.new.self _ c.loop-listing.invariant.1
    (rw c.in_default.is at c.in_ok-node.ensures) refl)
