use Rattle.std.proofs.Common.{arith}
use Rattle.lower_marks.proofs.Listing.{arguments_whole}
use Rattle.lower_marks.proofs.listed.add_arguments.Goals as goal

pub returns : goal.returns
returns c =
    arguments_whole c.args.places.now c.args.arguments.now c.loop-k.k c.loop-k.known _ (omega (arith, c.loop-k-test.false, c.min-k-end.ensures)) c.loop-k.invariant
