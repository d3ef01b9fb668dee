use Rattle.std.proofs.Common.{option_map, ap, sym, ◌∙◌, ◌∷◌}
use Rattle.std.proofs.lemmas.Result.{on_ok_weaker}
use Rattle.v1_ready_blocks.specs.Statements.{otherwise}
use Rattle.v1_ready_bodies.specs.internal.Steps.{seen_all, default_made, others_made}
use Rattle.v1_ready_bodies.proofs.Keeping.{one_joined_so, put_within}
use Rattle.v1_ready_bodies.proofs.cases.make_default.Goals as goal

pub returns-then-had-clause-within : goal.returns-then-had-clause-within
returns-then-had-clause-within c = c.take_made-body.ensures.others c.args.nodes.now c.requires.made

pub returns-clause-made : goal.returns-clause-made
returns-clause-made c =
    let old = c.args.nodes.now in
    let m = seen_all old c.args.made.now in
    on_ok_weaker c.push.result
    (λ so. one_joined_so old c.put_otherwise.new.nodes c.in_ok-default.ensures.grows (option_map otherwise) c.args.made.now c.take_made.new.made c.push.new.self c.take_made-body.result c.in_ok-default.default (others_made (others_made m))
    (c.take_made.ensures.others old (c.take_made-body.ensures.others old c.requires.made)) (c.take_made.ensures.rest old ∙ ap others_made (c.take_made-body.ensures.rest old)) (c.take_made-body.ensures.first old) c.in_ok-default.ensures.statement so
    ∙ sym (ap (λ had. default_made had m) c.if-had.false))
    c.push.ensures

pub returns-clause-within : goal.returns-clause-within
returns-clause-within c =
    let old = c.args.nodes.now in
    on_ok_weaker c.push.result
    (λ so. put_within old c.put_otherwise.new.nodes c.in_ok-default.ensures.grows c.in_ok-default.default c.take_made.new.made c.push.new.self
    (c.take_made.ensures.others old (c.take_made-body.ensures.others old c.requires.made)) c.in_ok-default.ensures.within so)
    c.push.ensures
