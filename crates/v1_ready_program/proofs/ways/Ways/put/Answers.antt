use Rattle.std.proofs.Common.{[], sym, subst, arith}
use Rattle.node_lists.specs.Trees.{grow, AllInOrder, Adds}
use Rattle.node_lists.proofs.Growth as growth
use Rattle.v1_ready_program.specs.internal.Ways.{IsStep, way_of}
use Rattle.v1_ready_program.specs.internal.Coded.{seen_ways, HasEnds}
use Rattle.v1_ready_program.proofs.Asking.{ends_kept}
use Rattle.v1_ready_program.proofs.ways.Ways.put.Goals as goal

pub returns-clause-ok : goal.returns-clause-ok
returns-clause-ok c =
    subst (λ items. Adds (seen_ways c.args.self.now) (grow way_of [] items) c.len-place.result (way_of (seen_ways c.args.self.now) c.args.step)) (sym c.in_ok-push.ensures.items)
    (growth.adds_one way_of c.args.self.now.steps.items c.args.step c.len-place.result (omega (arith, c.len-place.ensures, c.args.self.now.steps.ok.0)))

pub returns-clause-ways : goal.returns-clause-ways
returns-clause-ways c = record {
  order =
      subst (λ items. AllInOrder IsStep 0 items) (sym c.in_ok-push.ensures.items)
      (growth.one_more_in_order way_of IsStep c.args.self.now.steps.items c.args.step c.requires.ways.order c.requires.step);
  ends =
      subst (λ items. HasEnds (grow way_of [] items)) (sym c.in_ok-push.ensures.items)
      (ends_kept _ _ c.len-place.result (way_of (seen_ways c.args.self.now) c.args.step)
      (growth.adds_one way_of c.args.self.now.steps.items c.args.step c.len-place.result (omega (arith, c.len-place.ensures, c.args.self.now.steps.ok.0)))
      c.requires.ways.ends);
}
