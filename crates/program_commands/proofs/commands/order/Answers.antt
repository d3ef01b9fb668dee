use Rattle.std.proofs.Common.{subst}
use Rattle.p414_syntax.specs.declared.syntax.Syntax14.{Syntax14}
use Rattle.std.proofs.lemmas.Result.{err_from_is_err_and}
use Rattle.file_work.proofs.Phases.{blames_as}
use Rattle.program_commands.specs.Lines.{PrintsOrder}
use Rattle.program_commands.proofs.Exits.{works_stopped, works_done, ends_stopped, ends_done}
use Rattle.program_commands.proofs.commands.order.Goals as goal

pub returns-in_err-taken-clause-works : goal.returns-in_err-taken-clause-works
returns-in_err-taken-clause-works g c =
    let p = err_from_is_err_and c.from_residual.result c.from_residual.ensures.1 in
    rw (p.1, p.2) (works_stopped PrintsOrder c.args.program.now _ _ c.in_err-taken.ensures.moves _ (blames_as _ _ _ (λ rose. rose) c.in_err-taken.ensures.cause) c.in_err-taken.ensures.gives)

pub returns-clause-works : goal.returns-clause-works
returns-clause-works g c =
    works_done PrintsOrder c.args.program.now _ _ c.in_ok-taken.ensures.moves c.in_ok-taken.taken c.in_ok-lines.lines.items (subst (λ (s : Syntax14). PrintsOrder s c.in_ok-lines.lines.items) c.syntax.ensures.is c.in_ok-lines.ensures) c.in_ok-taken.ensures.gives

pub returns-clause-by_file : goal.returns-clause-by_file
returns-clause-by_file g c = λ files told.
    ends_done PrintsOrder c.args.program.now files c.in_ok-taken.taken c.in_ok-lines.lines.items (subst (λ (s : Syntax14). PrintsOrder s c.in_ok-lines.lines.items) c.syntax.ensures.is c.in_ok-lines.ensures) (c.in_ok-taken.ensures.gives (files c.args.program.now) told.0)

pub returns-in_err-taken-clause-by_file : goal.returns-in_err-taken-clause-by_file
returns-in_err-taken-clause-by_file g c = λ files told.
    let p = err_from_is_err_and c.from_residual.result c.from_residual.ensures.1 in
    rw (p.1, p.2) (ends_stopped PrintsOrder c.args.program.now files _ (c.in_err-taken.ensures.gives (files c.args.program.now) told.0))
