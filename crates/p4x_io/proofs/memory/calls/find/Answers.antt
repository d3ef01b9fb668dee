use Rattle.p4x_io.proofs.Slots.{none_more, first}
use Rattle.std.proofs.Common.{arith, sym, ◌∙◌}
use Rattle.p4x_io.proofs.memory.calls.find.Goals as goal

pub loop-i-preserved : goal.loop-i-preserved
loop-i-preserved c =
    none_more c.args.name.now c.args.slots.now c.loop-i.i c.index-slots-i.result (omega arith) c.index-slots-i.is c.loop-i.invariant (sym c.is_named.ensures ∙ c.if-is_named.false)

pub returns-then-is_named : goal.returns-then-is_named
returns-then-is_named c =
    first c.args.name.now c.args.slots.now c.loop-i.i c.index-slots-i.result (omega arith) c.index-slots-i.is c.loop-i.invariant (sym c.is_named.ensures ∙ c.if-is_named.true)
