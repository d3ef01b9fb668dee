use Rattle.std.proofs.Common.{length}
use Rattle.v1_ready_nodes.specs.Held.{ready_in, trees_in}
use Rattle.v1_ready_tests.proofs.tests.made_of.Goals as goal

pub returns-in_ok-value-clause-within : goal.returns-in_ok-value-clause-within
returns-in_ok-value-clause-within c =
    c.in_ok-value.ensures.within (c.ready.ensures.within (length (ready_in c.args.nodes.now)) (length (trees_in c.args.nodes.now)) c.requires.parts)
