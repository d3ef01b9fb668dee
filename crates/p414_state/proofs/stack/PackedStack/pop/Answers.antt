use Rattle.std.proofs.Common.{subst, sym}
use Rattle.p414_state.specs.Headers.{HoldsStack}
use Rattle.p414_state.proofs.Stacks.{lowered_holds}
use Rattle.p414_state.proofs.stack.PackedStack.pop.Goals as goal

pub returns : goal.returns
returns c = λ shape headers header holds.
    lowered_holds c.args.count c.self.inside.elements.items c.lower.new.elements.items shape headers c.lower.ensures header
    (subst (HoldsStack shape headers) (sym c.self.view_is) holds)
