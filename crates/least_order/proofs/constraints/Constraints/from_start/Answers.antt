use Rattle.std.proofs.Common.{List, Bool, sym, subst}
use Rattle.digraph.specs.Graphs.{AreReached}
use Rattle.least_order.proofs.constraints.Constraints.from_start.Goals as goal

pub returns : goal.returns
returns c = record {
  count = c.in_ok-count.count;
  below = c.in_ok-count.ensures;
  are = c.in_ok-constraints.ensures.constraints c.args.start (subst (λ (reached : List Bool). AreReached c.args.edges.now c.args.start reached) (sym c.deref.ensures.value) c.in_ok-reached.ensures);
  found_each = c.in_ok-constraints.ensures.each;
}
