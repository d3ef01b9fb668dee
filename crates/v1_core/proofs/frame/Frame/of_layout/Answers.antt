use Rattle.v1_core.proofs.Frames.{kept_first}
use Rattle.v1_core.proofs.frame.Frame.of_layout.Goals as goal

pub invariant_of-result : goal.invariant_of-result
invariant_of-result c =
    kept_first c.args.layout.now c.slots.result c.headers.result c.stacks.result c.in_ok-numbers.numbers.items c.in_ok-valids.valids.items c.in_ok-places.places.items _ c.new.result.items (c.is_whole.ensures.owners c.if-not-is_whole.false) c.is_whole.ensures.slots c.is_whole.ensures.owned c.is_whole.ensures.fields c.in_ok-numbers.ensures c.in_ok-valids.ensures c.in_ok-places.ensures c.slots.ensures c.headers.ensures c.stacks.ensures
