use Rattle.std.proofs.Common.{arith}
use Rattle.match_core.proofs.Colouring.{given_more}
use Rattle.match_core.proofs.stores.give_all.Goals as goal

pub loop-colour-preserved : goal.loop-colour-preserved
loop-colour-preserved c = record {
  given = given_more c.args.store.now c.loop-colour.store c.give.new.self c.args.object c.args.colours.now c.loop-colour.colour-index (omega arith) c.requires.within c.loop-colour.invariant.given c.in-Ok.ensures.ok;
  store = c.give.ensures.store;
}
