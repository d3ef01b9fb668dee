use Rattle.std.proofs.lemmas.Result.{on_ok_weaker}
use Rattle.v1_ready_bodies.proofs.cases.make_case.Goals as goal

pub returns-in-Action-clause-within : goal.returns-in-Action-clause-within
returns-in-Action-clause-within c =
    on_ok_weaker c.pass_behind.result (λ kept. kept c.args.nodes.now c.requires.made) c.pass_behind.ensures.within
