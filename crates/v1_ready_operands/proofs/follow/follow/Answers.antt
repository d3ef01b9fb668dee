use Rattle.std.proofs.Common.{◌<◌, sym, ap, subst, ◌∙◌, arith}
use Rattle.v1_ready_statements.specs.Tested.{way_range}
use Rattle.v1_ready_program.specs.Seen.{seen_spot}
use Rattle.v1_ready_program.specs.internal.Coded.{seen_ways}
use Rattle.v1_ready_operands.specs.internal.Coded.{taken_range, IsBefore}
use Rattle.v1_ready_operands.proofs.follow.follow.Goals as goal

pub loop-next-smaller : goal.loop-next-smaller
loop-next-smaller c = subst (IsBefore c.loop-next.at) c.in-On.is (c.in_ok-next.ensures.before c.loop-next.at c.step.ensures.order)

pub loop-next-preserved : goal.loop-next-preserved
loop-next-preserved c =
    let ways = seen_ways c.args.ways.now in
    let smaller : c.in-On.behind < c.loop-next.at = subst (IsBefore c.loop-next.at) c.in-On.is (c.in_ok-next.ensures.before c.loop-next.at c.step.ensures.order) in
    record {
      same =
          sym (ap (taken_range c.args.types.now ways) c.in-On.is)
          ∙ (c.in_ok-next.ensures.range ways
          ∙ (ap (λ w. way_range c.args.types.now w (seen_spot c.loop-next.here)) (sym c.step.ensures.way) ∙ c.loop-next.invariant.same));
      within = omega (arith, c.loop-next.invariant.within);
    }
