use Rattle.p414_act_run.specs.Sums.{sums_in}
use Rattle.p414_calculated_fields.proofs.Meaning.{updated}
use Rattle.p414_calculated_fields.proofs.program.update14.Goals as goal

pub returns : goal.returns
returns c =
    updated c.args.program.now.decls c.in_ok-fields.fields (sums_in c.in_ok-calculations.calculations) c.args.state.now c.update.new.state
    c.requires c.in_ok-fields.ensures.means c.in_ok-calculations.ensures c.in_ok-update.ensures
