use Rattle.std.proofs.Common.{subst, sym}
use Rattle.p414_state.specs.Headers.{HoldsStack}
use Rattle.p414_state.proofs.Stacks.{raised_holds}
use Rattle.p414_state.proofs.stack.PackedStack.push.Goals as goal

pub returns : goal.returns
returns c = λ shape headers header holds.
    raised_holds c.args.count c.self.inside.elements.items c.raise.new.elements.items shape headers c.raise.ensures header
    (subst (HoldsStack shape headers) (sym c.self.view_is) holds)
