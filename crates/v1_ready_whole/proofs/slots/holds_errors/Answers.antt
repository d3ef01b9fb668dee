use Rattle.std.proofs.lemmas.Bool.{leb-true}
use Rattle.v1_ready_whole.proofs.Standard.{errors_held}
use Rattle.v1_ready_whole.proofs.slots.holds_errors.Goals as goal

pub returns-then-is_slot : goal.returns-then-is_slot
returns-then-is_slot c = λ wide. errors_held c.args.layout.now c.args.slot c.width.result (c.is_slot.ensures c.if-is_slot.true) c.width.ensures.is (leb-true 2 c.width.result wide)
