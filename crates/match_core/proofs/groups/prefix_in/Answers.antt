use Rattle.std.proofs.Common.{sym, arith}
use Rattle.match_core.proofs.Grouped.{prefix_next, prefix_here, prefix_end}
use Rattle.match_core.proofs.groups.prefix_in.Goals as goal

pub loop-i-preserved : goal.loop-i-preserved
loop-i-preserved c = prefix_next c.args.specs.now c.args.numbers.now c.loop-i.i _ _ (omega arith) (sym c.if-is_lpm.ensures) c.loop-i.invariant

pub returns : goal.returns
returns c = prefix_end c.args.specs.now c.args.numbers.now c.loop-i.i _ (omega arith) c.loop-i.invariant

pub returns-then-is_lpm : goal.returns-then-is_lpm
returns-then-is_lpm c = prefix_here c.args.specs.now c.args.numbers.now c.loop-i.i _ _ (omega arith) (sym c.if-is_lpm.ensures) c.loop-i.invariant
