use Rattle.p414_act_run.proofs.Giving.{added_new}
use Rattle.p414_act_run.proofs.effects.add_effect.Goals as goal

pub returns : goal.returns
returns c =
    added_new c.args.state.now c.args.at c.clear_effect.result c.valid.result c.valid.ensures c.if-valid.false c.clear_effect.ensures
