use Rattle.std.proofs.Common.{inl, inr, refl}
use Rattle.std.proofs.lemmas.Result.{err_from_is_err_and}
use Rattle.file_work.specs.declared.stop.Stop.TheVariants.{Memory}
use Rattle.command_words.specs.Views.{run16_files_of}
use Rattle.run16_cmd.proofs.Left.{left_early}
use Rattle.run16_cmd.proofs.command.run_beginning.Goals as goal

pub returns-in_err-program-clause-leaves : goal.returns-in_err-program-clause-leaves
returns-in_err-program-clause-leaves g c = λ files here begins.
    let p = err_from_is_err_and c.from_residual.result c.from_residual.ensures.1 in
    rw (p.1, p.2) (left_early (run16_files_of c.args.names.now) files (g.D.Desk.view c.args.desk.now) (g.D.Desk.view c.args.desk.now) Memory (inr (inl refl)) refl refl)
