use Rattle.std.proofs.Common.{◌≡◌, inl, [], ◌∷◌, refl, sym, ◌∙◌}
use Rattle.std.proofs.lemmas.Result.{err_from_is_err_and}
use Rattle.file_work.specs.declared.stop.Stop.TheVariants.{Fault}
use Rattle.file_work.specs.Phases.{line_view}
use Rattle.command_words.specs.Views.{run16_files_of}
use Rattle.run16_cmd.proofs.Blaming.{run_since}
use Rattle.run16_cmd.proofs.Left.{left_begin, left_run}
use Rattle.run16_cmd.proofs.Named.{apart_of}
use Rattle.run16_cmd.proofs.Packets.{known_before}
use Rattle.run16_cmd.proofs.command.run_begun.Goals as goal

pub begin-requires : goal.begin-requires
begin-requires g c = (apart_of c.args.names.now).1.0

pub returns-in_err-begin-clause-leaves : goal.returns-in_err-begin-clause-leaves
returns-in_err-begin-clause-leaves g c = λ files here begins.
    let p = err_from_is_err_and c.from_residual.result c.from_residual.ensures.1 in
    let is : p.0 ≡ Fault = p.2 ∙ c.in_err-begin.ensures.only in
    let b = c.args.beginning.now in
    rw (p.1, is) (left_begin (run16_files_of c.args.names.now) files (g.D.Desk.view c.args.desk.now) (g.D.Desk.view c.begin.new.desk) b.program b.entries b.ports begins Fault (inl refl)
    c.in_err-begin.ensures.part_sent c.in_err-begin.ensures.part_report)

pub returns-in_err-begin-clause-stops : goal.returns-in_err-begin-clause-stops
returns-in_err-begin-clause-stops g c =
    let p = err_from_is_err_and c.from_residual.result c.from_residual.ensures.1 in
    let is : p.0 ≡ Fault = p.2 ∙ c.in_err-begin.ensures.only in
    rw (p.1, is) (inl refl)

pub returns-clause-leaves : goal.returns-clause-leaves
returns-clause-leaves g c = λ files here begins.
    let b = c.args.beginning.now in
    let n = c.args.names.now in
    let apart = apart_of n in
    let there = c.in_ok-begin.ensures.moves.others n.capture.now ((λ is. apart.0.1.1.0 (sym is)), ((λ is. apart.2.0.1.1.0 (sym is)), tt)) ∙ here in
    left_run (run16_files_of n) files (g.D.Desk.view c.args.desk.now) (g.D.Desk.view c.run_ready.new.desk) b.program b.entries b.ports begins (line_view c.run_ready.result) (g.D.Desk.view c.begin.new.desk)
    c.in_ok-begin.ensures.sent c.in_ok-begin.ensures.report (c.run_ready.ensures.gives (files n.capture.now) there)

pub returns-clause-known : goal.returns-clause-known
returns-clause-known g c =
    let n = c.args.names.now in
    let apart = apart_of n in
    known_before c.run_ready.result _ _ _ (c.in_ok-begin.ensures.moves.others n.capture.now ((λ is. apart.0.1.1.0 (sym is)), ((λ is. apart.2.0.1.1.0 (sym is)), tt))) c.run_ready.ensures.known

pub returns-clause-cause : goal.returns-clause-cause
returns-clause-cause g c =
    let n = c.args.names.now in
    run_since (run16_files_of n) (g.D.Desk.view c.args.desk.now) (g.D.Desk.view c.begin.new.desk) (g.D.Desk.view c.run_ready.new.desk) (n.sent.now ∷ n.report.now ∷ []) c.run_ready.result c.in_ok-begin.ensures.moves c.run_ready.ensures.cause
