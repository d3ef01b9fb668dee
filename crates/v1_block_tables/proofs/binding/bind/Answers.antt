use Rattle.std.proofs.Common.{All, subst, sym}
use Rattle.v1_ready_blocks.specs.Nodes.{IsSlot}
use Rattle.v1_block_tables.proofs.Giving.{slots_there}
use Rattle.v1_block_tables.proofs.binding.bind.Goals as goal

pub bind_numbers-requires : goal.bind_numbers-requires
bind_numbers-requires c =
    subst (All (IsSlot c.args.frame.now.layout)) (sym c.as_slice.ensures)
    (slots_there c.args.actions.now c.args.action c.args.numbers.now c.args.frame.now c.args.frame.now c.in-Some.found.now
    c.in-Some.ensures c.requires)
