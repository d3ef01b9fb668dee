use Rattle.std.proofs.lemmas.Result.{on_ok_weaker}
use Rattle.v1_ready_blocks.specs.Statements.{sequence}
use Rattle.v1_ready_statements.specs.Statements.{both_ready}
use Rattle.v1_ready_bodies.proofs.Keeping.{two_joined, put_within}
use Rattle.v1_ready_bodies.proofs.joining.make_sequence.Goals as goal

pub returns-clause-made : goal.returns-clause-made
returns-clause-made c =
    let old = c.args.nodes.now in
    on_ok_weaker c.push.result
    (λ so. two_joined old c.put_sequence.new.nodes c.in_ok-both.ensures.grows (both_ready sequence) c.args.made.now c.take_made-second.new.made c.take_made-first.new.made c.push.new.self c.take_made-second.result c.take_made-first.result c.in_ok-both.both
    (c.take_made-first.ensures.others old (c.take_made-second.ensures.others old c.requires.made)) (c.take_made-second.ensures.rest old) (c.take_made-first.ensures.rest old) (c.take_made-second.ensures.first old) (c.take_made-first.ensures.first old) c.in_ok-both.ensures.statement so)
    c.push.ensures

pub returns-clause-within : goal.returns-clause-within
returns-clause-within c =
    let old = c.args.nodes.now in
    on_ok_weaker c.push.result
    (λ so. put_within old c.put_sequence.new.nodes c.in_ok-both.ensures.grows c.in_ok-both.both c.take_made-first.new.made c.push.new.self
    (c.take_made-first.ensures.others old (c.take_made-second.ensures.others old c.requires.made)) c.in_ok-both.ensures.within so)
    c.push.ensures
