use Rattle.std.proofs.Common.{arith}
use Rattle.match_core.proofs.Coded.{code_end}
use Rattle.match_core.proofs.plain.code_of.Goals as goal

pub returns : goal.returns
returns c = code_end c.args.specs.now c.args.ones.now c.loop-i.i _ c.loop-i.code (omega arith) c.loop-i.invariant
