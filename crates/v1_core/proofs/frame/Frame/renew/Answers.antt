use Rattle.std.proofs.Common.{vec_len, arith}
use Rattle.v1_core.proofs.Frames.{kept_first}
use Rattle.v1_core.proofs.frame.Frame.renew.Goals as goal

pub invariant_of-self : goal.invariant_of-self
invariant_of-self c =
    kept_first c.args.layout.now (vec_len c.self.inside.numbers) (vec_len c.self.inside.valids) (vec_len c.self.inside.places) c.fill.new.self.items c.fill-2.new.self.items c.fill-3.new.self.items _ c.clear.new.self.items (c.is_whole.ensures.owners (search arith)) c.is_whole.ensures.slots c.is_whole.ensures.owned c.is_whole.ensures.fields (c.fill.ensures.items (λ y e. e)) (c.fill-2.ensures.items (λ y e. e)) (c.fill-3.ensures.items (λ y e. e)) (omega arith) (omega arith) (omega arith)
