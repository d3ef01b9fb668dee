use Rattle.std.proofs.Common.{◌∙◌}
use Rattle.p414_list_check.proofs.Answering.{inputs_by}
use Rattle.p414_list_check.proofs.lists.are_inputs_bad.Goals as goal

pub returns : goal.returns
returns c =
    inputs_by c.args.names.now c.args.lengths.now c.requires.lengths c.args.standards.now c.requires.standards c.deref.result.now c.is_bad_total.result (c.deref.ensures.value ∙ c.in_ok-inputs.ensures) c.is_bad_total.ensures
