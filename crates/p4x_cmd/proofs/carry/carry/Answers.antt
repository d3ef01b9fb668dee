use Rattle.std.proofs.Common.{rules, ◌≡◌, inl, ℕ, List, [], Some, refl, sym, ◌∙◌, ap, subst}
use Rattle.std.proofs.lemmas.Result.{err_from_is_err_and}
use Rattle.p4x_io.specs.Desk.{put}
use Rattle.file_work.specs.declared.stop.Stop.TheVariants.{Fault}
use Rattle.p4x_cmd.specs.Carry.{capture_reports, carried_word}
use Rattle.run_stream.specs.Captured.{DeliversLine}
use Rattle.one_table_text.specs.Programs.{program16}
use Rattle.file_work.specs.Works.{IsPart}
use Rattle.file_work.specs.Phases.{line_view}
use Rattle.command_words.specs.Views.{files_of}
use Rattle.file_work.proofs.Phases.{blames_view}
use Rattle.p4x_cmd.proofs.Blaming.{run_blames}
use Rattle.p4x_cmd.proofs.Left.{left_early, left_begin, left_run}
use Rattle.p4x_cmd.proofs.Order.{order_loose, order_stopped, order_run, once_run, run_late, fault_late, keeps_all, keeps_begun}
use Rattle.p4x_cmd.proofs.Packets.{packets_of}
use Rattle.p4x_cmd.proofs.Writing.{written_is}
use Rattle.p4x_cmd.proofs.Named.{apart_of}
use Rattle.p4x_cmd.proofs.carry.carry.Goals as goal

pub returns-in_err-beginning-clause-works : goal.returns-in_err-beginning-clause-works
returns-in_err-beginning-clause-works g c = record {
  moves = search rules;
  cause = search rules;
  leaves = λ files told.
      let p = err_from_is_err_and c.from_residual.result c.from_residual.ensures.1 in
      let n = c.args.names.now in
      let kept = c.prepare.ensures.moves.others in
      rw (p.1, p.2) (left_early (files_of n) files _ _ _ (c.in_err-beginning.ensures.stops files told)
      (kept n.text.now tt) (kept n.sent.now tt) (kept n.report.now tt));
}

pub returns-in_err-begin-clause-works : goal.returns-in_err-begin-clause-works
returns-in_err-begin-clause-works g c = record {
  moves = search rules;
  cause = blames_view c.from_residual-in_err-begin.result _ (search rules);
  leaves = λ files told.
      let p = err_from_is_err_and c.from_residual-in_err-begin.result c.from_residual-in_err-begin.ensures.1 in
      let is : p.0 ≡ Fault = p.2 ∙ c.in_err-begin.ensures.only in
      let n = c.args.names.now in
      let w = c.in_ok-beginning.beginning in
      let kept = c.prepare.ensures.moves.others in
      let some = c.in_ok-beginning.ensures.begins files told in
      let written = written_is (files n.program.now) some.0 w.program w.text some.1.0.0 some.2 c.in_ok-beginning.ensures.text in
      let after = g.D.Desk.view c.begin.new.desk in
      let text = subst (λ t. IsPart t (after.told n.text.now) (Some w.text)) (kept n.text.now tt)
      (subst (λ (x : List ℕ). IsPart ((g.D.Desk.view c.prepare.new.desk).told n.text.now) (after.told n.text.now) (Some x)) c.as_slice.ensures c.in_err-begin.ensures.part_text) in
      let sent = subst (λ t. IsPart t (after.told n.sent.now) (Some [])) (kept n.sent.now tt) c.in_err-begin.ensures.part_sent in
      let report = subst (λ t. IsPart t (after.told n.report.now) (Some [])) (kept n.report.now tt) c.in_err-begin.ensures.part_report in
      rw (p.1, is) (left_begin (files_of n) files (g.D.Desk.view c.args.desk.now) after some.0 w.ports w.text (program16 w.program) some.1 written text sent report);
}

pub returns-clause-works : goal.returns-clause-works
returns-clause-works g c = record {
  moves = search rules;
  cause = run_blames (files_of c.args.names.now) _ _ _ _ _ (line_view c.run_capture.result) c.prepare.ensures.moves c.begin.ensures.moves (blames_view c.run_capture.result _ c.run_capture.ensures.cause);
  leaves = λ files told.
      let n = c.args.names.now in
      let w = c.in_ok-beginning.beginning in
      let before = g.D.Desk.view c.args.desk.now in
      let mid = g.D.Desk.view c.begin.new.desk in
      let after = g.D.Desk.view c.run_capture.new.desk in
      let kept = c.prepare.ensures.moves.others in
      let some = c.in_ok-beginning.ensures.begins files told in
      let written = written_is (files n.program.now) some.0 w.program w.text some.1.0.0 some.2 c.in_ok-beginning.ensures.text in
      let here = c.in_ok-begin.ensures.moves.others n.capture.now ((λ is. (apart_of n).0.1.1.0 (sym is)), ((λ is. (apart_of n).2.0.1.1.0 (sym is)), ((λ is. (apart_of n).2.2.0.1.1.0 (sym is)), tt))) ∙ kept n.capture.now tt ∙ told.1.1.0 in
      left_run (files_of n) files before after some.0 w.ports w.text (program16 w.program) some.1 written (line_view c.run_capture.result) mid
      (c.run_capture.ensures.moves.others n.text.now ((apart_of n).1.0, ((apart_of n).1.1.0, tt)) ∙ c.in_ok-begin.ensures.text ∙ ap (λ t. put t c.as_slice.result.now) (kept n.text.now tt) ∙ ap (λ (x : List ℕ). put (before.told n.text.now) x) c.as_slice.ensures)
      (c.in_ok-begin.ensures.sent ∙ ap (λ t. put t []) (kept n.sent.now tt))
      (c.in_ok-begin.ensures.report ∙ ap (λ t. put t []) (kept n.report.now tt))
      (subst (λ (x : List ℕ). DeliversLine carried_word (capture_reports (program16 w.program) n.passes x (files n.capture.now)) (line_view c.run_capture.result) (mid.told n.sent.now) (after.told n.sent.now) (mid.told n.report.now) (after.told n.report.now))
      c.as_slice-ports.ensures (c.run_capture.ensures.gives (files n.capture.now) here));
}

pub returns-in_err-beginning-clause-packets : goal.returns-in_err-beginning-clause-packets
returns-in_err-beginning-clause-packets g c =
    let p = err_from_is_err_and c.from_residual.result c.from_residual.ensures.1 in
    rw p.1 tt

pub returns-in_err-begin-clause-packets : goal.returns-in_err-begin-clause-packets
returns-in_err-begin-clause-packets g c =
    let p = err_from_is_err_and c.from_residual-in_err-begin.result c.from_residual-in_err-begin.ensures.1 in
    rw p.1 tt

pub returns-clause-packets : goal.returns-clause-packets
returns-clause-packets g c =
    let n = c.args.names.now in
    let w = c.in_ok-beginning.beginning in
    let kept = c.prepare.ensures.moves.others in
    packets_of (files_of n) (g.D.Desk.view c.args.desk.now) (g.D.Desk.view c.begin.new.desk) w.ports c.run_capture.result
    (λ files told. let some = c.in_ok-beginning.ensures.begins files told in some.1.1)
    (λ file told. c.in_ok-begin.ensures.moves.others n.capture.now ((λ is. (apart_of n).0.1.1.0 (sym is)), ((λ is. (apart_of n).2.0.1.1.0 (sym is)), ((λ is. (apart_of n).2.2.0.1.1.0 (sym is)), tt))) ∙ kept n.capture.now tt ∙ told)
    c.in_ok-beginning.ensures.fits c.run_capture.ensures.known

pub begin-requires-clause-text_sent : goal.begin-requires-clause-text_sent
begin-requires-clause-text_sent g c = (apart_of c.args.names.now).1.0

pub begin-requires-clause-text_report : goal.begin-requires-clause-text_report
begin-requires-clause-text_report g c = (apart_of c.args.names.now).1.1.0

pub begin-requires-clause-sent_report : goal.begin-requires-clause-sent_report
begin-requires-clause-sent_report g c = (apart_of c.args.names.now).2.1.0

pub returns-in_err-beginning-clause-order : goal.returns-in_err-beginning-clause-order
returns-in_err-beginning-clause-order g c =
    let p = err_from_is_err_and c.from_residual.result c.from_residual.ensures.1 in
    rw (p.1, p.2) (order_stopped _ _ (files_of c.args.names.now) _ _ c.in_err-beginning.ensures.order)

pub returns-in_err-begin-clause-order : goal.returns-in_err-begin-clause-order
returns-in_err-begin-clause-order g c =
    let p = err_from_is_err_and c.from_residual-in_err-begin.result c.from_residual-in_err-begin.ensures.1 in
    let is : p.0 ≡ Fault = p.2 ∙ c.in_err-begin.ensures.only in
    rw (p.1, is) (order_loose _ (files_of c.args.names.now) _ Fault (inl refl))

pub returns-clause-once : goal.returns-clause-once
returns-clause-once g c = once_run c.run_capture.result _ c.in_ok-beginning.ensures.once

pub returns-clause-order : goal.returns-clause-order
returns-clause-order g c =
    order_run _ (files_of c.args.names.now) _ c.in_ok-beginning.beginning c.in_ok-beginning.ensures.order c.run_capture.result c.run_capture.ensures.stops

pub returns-in_err-beginning-clause-kept : goal.returns-in_err-beginning-clause-kept
returns-in_err-beginning-clause-kept g c =
    let p = err_from_is_err_and c.from_residual.result c.from_residual.ensures.1 in
    let n = c.args.names.now in
    let kept = c.prepare.ensures.moves.others in
    rw p.1 (keeps_all (files_of n) _ _ _ (kept n.text.now tt, (kept n.sent.now tt, (kept n.report.now tt, tt))))

pub returns-in_err-begin-clause-kept : goal.returns-in_err-begin-clause-kept
returns-in_err-begin-clause-kept g c =
    let p = err_from_is_err_and c.from_residual-in_err-begin.result c.from_residual-in_err-begin.ensures.1 in
    let is : p.0 ≡ Fault = p.2 ∙ c.in_err-begin.ensures.only in
    rw (p.1, is) (keeps_begun (files_of c.args.names.now) _ _ _ c.in_ok-beginning.beginning c.in_ok-beginning.ensures.order _ fault_late)

pub returns-clause-kept : goal.returns-clause-kept
returns-clause-kept g c =
    keeps_begun (files_of c.args.names.now) _ _ _ c.in_ok-beginning.beginning c.in_ok-beginning.ensures.order (line_view c.run_capture.result)
    (run_late c.run_capture.result c.run_capture.ensures.stops)
