use Rattle.std.proofs.lemmas.Result.{on_ok_weaker}
use Rattle.v1_ready_statements.specs.Statements.{branch_ready}
use Rattle.v1_ready_bodies.specs.Seen.{seen_test}
use Rattle.v1_ready_bodies.proofs.Keeping.{two_joined, put_within}
use Rattle.v1_ready_bodies.proofs.joining.join_branches.Goals as goal

pub returns-clause-made : goal.returns-clause-made
returns-clause-made c =
    let old = c.args.nodes.now in
    on_ok_weaker c.push.result
    (λ so. two_joined old c.put_branch.new.nodes c.in_ok-branch.ensures.grows (branch_ready (seen_test old c.args.test)) c.args.made.now c.take_made-negative.new.made c.take_made-positive.new.made c.push.new.self c.take_made-negative.result c.take_made-positive.result c.in_ok-branch.branch
    (c.take_made-positive.ensures.others old (c.take_made-negative.ensures.others old c.requires.made)) (c.take_made-negative.ensures.rest old) (c.take_made-positive.ensures.rest old) (c.take_made-negative.ensures.first old) (c.take_made-positive.ensures.first old) c.in_ok-branch.ensures.statement so)
    c.push.ensures

pub returns-clause-within : goal.returns-clause-within
returns-clause-within c =
    let old = c.args.nodes.now in
    on_ok_weaker c.push.result
    (λ so. put_within old c.put_branch.new.nodes c.in_ok-branch.ensures.grows c.in_ok-branch.branch c.take_made-positive.new.made c.push.new.self
    (c.take_made-positive.ensures.others old (c.take_made-negative.ensures.others old c.requires.made)) c.in_ok-branch.ensures.within so)
    c.push.ensures
