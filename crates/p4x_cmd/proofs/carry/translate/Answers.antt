use Rattle.std.proofs.Common.{sym, ◌∙◌, ap, subst}
use Rattle.one_table_text.specs.declared.one_table.OneTable16.{OneTable16}
use Rattle.one_table_text.specs.Programs.{is_one_table16}
use Rattle.one_table_text.specs.Lawful.{is_lawful}
use Rattle.p4x_cmd.specs.internal.Plain.{IsSized}
use Rattle.p4x_cmd.proofs.Lawful.{lawful_is}
use Rattle.p4x_cmd.proofs.Lowered.{lowered_is_one_table16}
use Rattle.p4x_cmd.proofs.Sizes.{lowered_sized}
use Rattle.p4x_cmd.proofs.carry.translate.Goals as goal

pub text_of-requires-clause-form : goal.text_of-requires-clause-form
text_of-requires-clause-form c = ap is_one_table16 c.in_ok-lowered.ensures ∙ lowered_is_one_table16 c.args.program.now c.requires

pub text_of-requires-clause-lawful : goal.text_of-requires-clause-lawful
text_of-requires-clause-lawful c = ap is_lawful c.in_ok-lowered.ensures ∙ lawful_is c.args.program.now c.requires

pub returns-clause-text : goal.returns-clause-text
returns-clause-text c = record { reads = c.in_ok-text.ensures.reads; only = c.in_ok-text.ensures.alone }

pub returns-clause-sized : goal.returns-clause-sized
returns-clause-sized c = subst (λ (q : OneTable16). IsSized q) (sym c.in_ok-lowered.ensures) (lowered_sized c.args.program.now c.requires)
