use Rattle.std.proofs.Common.{◌≡◌, false, length, vec_len, arith}
use Rattle.std.proofs.lemmas.List.{with_items_is}
use Rattle.v1_core.proofs.Frames.{kept_cleared}
use Rattle.v1_core.proofs.frame.Frame.set_valid.Goals as goal

pub invariant_of-self-then-index : goal.invariant_of-self-then-index
invariant_of-self-then-index c =
    let new = c.clear.new.numbers in
    let same : length new ≡ vec_len c.self.inside.numbers = omega arith in
    rw (with_items_is c.self.inside.numbers new same)
    (kept_cleared c.self.inside.layout.now c.self.inside.numbers.items new c.self.inside.valids.items c.self.inside.places.items c.self.inside.requests c.self.inside.events.items c.args.header false c.header.result c.self.invariant c.header.ensures.is (omega (arith, c.header.ensures.within, c.self.invariant.whole.numbers)) (omega arith) (rw c.deref_mut.ensures.value at c.clear.ensures.cleared) (rw c.deref_mut.ensures.value at c.clear.ensures.less))
