use Rattle.std.proofs.Common.{sym, ◌∙◌, ap}
use Rattle.std.proofs.lemmas.Result.{err_from_is_err_and}
use Rattle.p414_one_table.specs.Form.{one_table_of}
use Rattle.p414_one_table.proofs.Forms.{form_is}
use Rattle.p4x_cmd.proofs.Programs.{answers_form, answers_no_form, answers_stop}
use Rattle.p4x_cmd.proofs.carry.read_one_table.Goals as goal

pub returns-in-Ok-Some-clause-form : goal.returns-in-Ok-Some-clause-form
returns-in-Ok-Some-clause-form g c = form_is c.syntax.result.now c.in-Ok-Some.program (sym c.in-Ok-Some.ensures ∙ c.in-Ok-Some.field-0-is)

pub returns-in-Ok-Some-clause-gives : goal.returns-in-Ok-Some-clause-gives
returns-in-Ok-Some-clause-gives g c = λ file told.
    answers_form file c.in_ok-program.program (c.in_ok-program.ensures.gives file told) c.in-Ok-Some.program
    (ap one_table_of (sym c.syntax.ensures.is) ∙ sym c.in-Ok-Some.ensures ∙ c.in-Ok-Some.field-0-is)

pub returns-in-Ok-None-clause-gives : goal.returns-in-Ok-None-clause-gives
returns-in-Ok-None-clause-gives g c = λ file told.
    answers_no_form file c.in_ok-program.program (c.in_ok-program.ensures.gives file told)
    (ap one_table_of (sym c.syntax.ensures.is) ∙ sym c.in-Ok-None.ensures ∙ c.in-Ok-None.field-0-is)

pub returns-in_err-program-clause-gives : goal.returns-in_err-program-clause-gives
returns-in_err-program-clause-gives g c = λ file told.
    let p = err_from_is_err_and c.from_residual.result c.from_residual.ensures.1 in
    rw (p.1, p.2) (answers_stop file _ (c.in_err-program.ensures.gives file told))
