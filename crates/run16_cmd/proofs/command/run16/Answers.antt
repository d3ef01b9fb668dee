use Rattle.std.proofs.Common.{rules, ◌∙◌, subst}
use Rattle.std.proofs.lemmas.Result.{err_from_is_err_and}
use Rattle.match_core.specs.Fits.{Fits}
use Rattle.match_core.specs.Signatures.{IsSignature}
use Rattle.match_core.specs.declared.signatures.Signature.{Signature}
use Rattle.file_work.specs.Phases.{line_view}
use Rattle.file_work.proofs.Laws.{leaves_since}
use Rattle.file_work.proofs.Phases.{blames_view}
use Rattle.command_words.specs.Words.{run16_outputs}
use Rattle.command_words.specs.Views.{run16_files_of}
use Rattle.run16_cmd.specs.Run16.{Run16Due}
use Rattle.run16_cmd.proofs.Blaming.{run_blames}
use Rattle.run16_cmd.proofs.Left.{left_early}
use Rattle.run16_cmd.proofs.Order.{order_stopped, order_run, once_run, run_late, keeps_all, keeps_begun}
use Rattle.run16_cmd.proofs.Packets.{packets_of, entries_of}
use Rattle.run16_cmd.proofs.command.run16.Goals as goal

pub returns-in_err-beginning-clause-works : goal.returns-in_err-beginning-clause-works
returns-in_err-beginning-clause-works g c = record {
  moves = search rules;
  cause = search rules;
  leaves = λ files told.
      let p = err_from_is_err_and c.from_residual.result c.from_residual.ensures.1 in
      let n = c.args.names.now in
      let kept = c.prepare.ensures.moves.others in
      rw (p.1, p.2) (left_early (run16_files_of n) files _ _ _ (c.in_err-beginning.ensures.stops files told) (kept n.sent.now tt) (kept n.report.now tt));
}

pub returns-clause-works : goal.returns-clause-works
returns-clause-works g c = record {
  moves = search rules;
  cause = run_blames (run16_files_of c.args.names.now) (g.D.Desk.view c.args.desk.now) (g.D.Desk.view c.prepare.new.desk) (g.D.Desk.view c.run_beginning.new.desk) (line_view c.run_beginning.result) c.prepare.ensures.moves (blames_view c.run_beginning.result _ c.run_beginning.ensures.cause);
  leaves = λ files told.
      let n = c.args.names.now in
      let kept = c.prepare.ensures.moves.others in
      leaves_since (g.D.Desk.view c.args.desk.now) (g.D.Desk.view c.prepare.new.desk) (g.D.Desk.view c.run_beginning.new.desk) (λ name. kept name tt) (run16_outputs (run16_files_of n)) (Run16Due (run16_files_of n) files) (line_view c.run_beginning.result)
      (c.run_beginning.ensures.leaves files (kept n.capture.now tt ∙ told.1.1.0) (c.in_ok-beginning.ensures.begins files told));
}

pub returns-in_err-beginning-clause-packets : goal.returns-in_err-beginning-clause-packets
returns-in_err-beginning-clause-packets g c =
    let p = err_from_is_err_and c.from_residual.result c.from_residual.ensures.1 in
    rw p.1 tt

pub returns-in_err-beginning-clause-filling : goal.returns-in_err-beginning-clause-filling
returns-in_err-beginning-clause-filling g c =
    let p = err_from_is_err_and c.from_residual.result c.from_residual.ensures.1 in
    rw p.1 tt

pub returns-clause-packets : goal.returns-clause-packets
returns-clause-packets g c =
    let n = c.args.names.now in
    let b = c.in_ok-beginning.beginning in
    let kept = c.prepare.ensures.moves.others in
    packets_of (run16_files_of n) (g.D.Desk.view c.args.desk.now) (g.D.Desk.view c.prepare.new.desk) b.ports c.run_beginning.result (λ files told. (c.in_ok-beginning.ensures.begins files told).1)
    (λ file told. kept n.capture.now tt ∙ told) c.in_ok-beginning.ensures.ports c.run_beginning.ensures.known

pub returns-clause-filling : goal.returns-clause-filling
returns-clause-filling g c =
    let n = c.args.names.now in
    let b = c.in_ok-beginning.beginning in
    entries_of (run16_files_of n) (g.D.Desk.view c.args.desk.now) b.program b.entries c.run_beginning.result c.in_ok-beginning.ensures.answers c.in_ok-beginning.ensures.fills
    (subst IsSignature c.in_ok-beginning.ensures.signature c.in_ok-beginning.ensures.formed)
    (subst (λ (x : Signature). Fits b.entries x) c.in_ok-beginning.ensures.signature c.in_ok-beginning.ensures.fits)

pub returns-in_err-beginning-clause-order : goal.returns-in_err-beginning-clause-order
returns-in_err-beginning-clause-order g c =
    let p = err_from_is_err_and c.from_residual.result c.from_residual.ensures.1 in
    rw (p.1, p.2) (order_stopped _ _ (run16_files_of c.args.names.now) _ _ c.in_err-beginning.ensures.order)

pub returns-clause-order : goal.returns-clause-order
returns-clause-order g c =
    order_run _ (run16_files_of c.args.names.now) _ c.in_ok-beginning.beginning c.in_ok-beginning.ensures.order c.run_beginning.result c.run_beginning.ensures.stops

pub returns-clause-once : goal.returns-clause-once
returns-clause-once g c = once_run c.run_beginning.result _ c.in_ok-beginning.ensures.once

pub returns-in_err-beginning-clause-kept : goal.returns-in_err-beginning-clause-kept
returns-in_err-beginning-clause-kept g c =
    let p = err_from_is_err_and c.from_residual.result c.from_residual.ensures.1 in
    let n = c.args.names.now in
    let kept = c.prepare.ensures.moves.others in
    rw p.1 (keeps_all (run16_files_of n) _ _ _ (kept n.sent.now tt, (kept n.report.now tt, tt)))

pub returns-clause-kept : goal.returns-clause-kept
returns-clause-kept g c =
    keeps_begun (run16_files_of c.args.names.now) _ _ _ c.in_ok-beginning.beginning c.in_ok-beginning.ensures.order (line_view c.run_beginning.result)
    (run_late c.run_beginning.result c.run_beginning.ensures.stops)
