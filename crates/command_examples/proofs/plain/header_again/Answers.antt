use Rattle.std.proofs.Common.{arith, refl}
use Rattle.p4x_bits.proofs.BitLists.{num_of_take_below}
use Rattle.command_examples.proofs.Steps.{next_place}
use Rattle.command_examples.proofs.plain.header_again.Goals as goal

pub push_number-requires-clause-value : goal.push_number-requires-clause-value
push_number-requires-clause-value c = rw c.read_field.ensures (num_of_take_below _ _)

pub overflow_add-at : goal.overflow_add-at
overflow_add-at c =
    let bits = c.requires.widths.bits in
    let next = next_place c.args.widths.now c.args.packet.now c.loop-width.width-index c.loop-width.at _ c.loop-width.header c.loop-width.invariant c.loop-width-test.true refl in
    omega arith
