use Rattle.std.proofs.Common.{[], ◌++◌, length, take, length-append, Some, refl, sym, ◌∙◌, ap, arith}
use Rattle.std.proofs.lemmas.List.{length-take}
use Rattle.std.proofs.lemmas.Result.{err_from_is_err_and}
use Rattle.p4x_io.proofs.Desks.{moves_none, moves_on, moves_within, grown_there}
use Rattle.p4x_io.proofs.Reading.{front_none, front_more, front_end, reads_at}
use Rattle.run_stream.specs.internal.Streams.{held_of}
use Rattle.run_stream.proofs.Pieces.{unbroken_start, streamed_start, streamed_still, streamed_by, stopped_by, starts, pieces_cut, pieces_end, pieces_all, pieces_stop}
use Rattle.run_stream.proofs.capture.run_pieces.Goals as goal

pub pieces-init : goal.pieces-init
pieces-init g c =
    let r = g.R.Runner in
    let begins = starts c.args.stream.now.ports.now (held_of c.args.stream.now) (r.store c.args.runner.now) (r.done c.args.runner.now) c.requires.stream c.requires.work in
    record {
      moves = moves_none _ _;
      setting = refl;
      read = ([], refl, (λ file told. front_none file), unbroken_start, streamed_start _ _ c.args.stream.now.ports.now _ _ _ _ c.requires.reader begins);
      ports = c.requires.ports;
    }

pub returns-in_err-count-clause-gives : goal.returns-in_err-count-clause-gives
returns-in_err-count-clause-gives g c = λ file told.
    let p = err_from_is_err_and c.from_residual.result c.from_residual.ensures.1 in
    let r = c.pieces.invariant.read in
    let n = c.args.names.now in
    let kept = c.read.ensures.moves.others in
    pieces_cut _ _ _ r.0 _ _ _ _ _ _ r.3 r.4 file (r.2 file told) _ _ _ p.0 (kept n.sent.now tt) (kept n.report.now tt) p.2 p.1

pub returns-then-count-eq0-clause-gives : goal.returns-then-count-eq0-clause-gives
returns-then-count-eq0-clause-gives g c = λ file told.
    let r = c.pieces.invariant.read in
    let n = c.args.names.now in
    let kept = c.read.ensures.moves.others in
    let here = c.pieces.invariant.moves.others n.capture.now (n.sent_apart, (n.report_apart, tt)) ∙ told in
    let reads = reads_at _ _ _ _ file (length r.0) 0 c.in_ok-count.ensures.octets here (sym r.1) c.if-count-eq0.true in
    pieces_end _ _ _ r.0 _ _ _ _ _ _ r.3 r.4 file _ _ (kept n.sent.now tt) (kept n.report.now tt) (front_end file r.0 _ (r.2 file told) reads)

pub returns-clause-gives : goal.returns-clause-gives
returns-clause-gives g c = λ file told.
    let r = c.pieces.invariant.read in
    pieces_all _ _ _ r.0 _ _ _ _ _ _ r.3 r.4 file (r.2 file told) (omega (arith, r.1, c.pieces-test.false))

pub pieces-preserved : goal.pieces-preserved
pieces-preserved g c =
    let r = c.pieces.invariant.read in
    let n = c.args.names.now in
    let run = g.R.Runner in
    let kept = c.read.ensures.moves.others in
    let slice = c.read.new.into in
    let count = c.in_ok-count.count in
    let same = c.pieces.invariant.setting in
    let before = streamed_still _ _ _ r.0 _ _ _ _ _ _ _ _ (kept n.sent.now tt) (kept n.report.now tt) r.4 in
    let here = streamed_by _ run.outcome _ _ _ _ r.0 _ _ _ _ _ _ (sym same) before in
    let ended = c.in_ok-run_piece.ensures.ran _ _ r.0 _ _ r.3 here in
    record {
      moves = moves_on _ _ _ _ c.pieces.invariant.moves (moves_on _ _ _ _ (moves_within [] _ _ _ (λ name no. tt) c.read.ensures.moves) c.run_piece.ensures.moves);
      setting = c.in_ok-run_piece.ensures.setting ∙ same;
      read = (
        r.0 ++ take count slice,
        omega (arith, length-append r.0 (take count slice), length-take count slice, c.in_ok-count.ensures.octets.fits, r.1),
        (λ file told. front_more file r.0 slice count (r.2 file told)
            (reads_at _ _ _ _ file (length r.0) count c.in_ok-count.ensures.octets
            (c.pieces.invariant.moves.others n.capture.now (n.sent_apart, (n.report_apart, tt)) ∙ told) (sym r.1) refl)),
        ended.0,
        streamed_by _ run.outcome _ _ _ _ (r.0 ++ take count slice) _ _ _ _ _ _ same ended.1,
      );
      ports = c.run_piece.ensures.ports;
    }

pub returns-in_err-run_piece-clause-gives : goal.returns-in_err-run_piece-clause-gives
returns-in_err-run_piece-clause-gives g c = λ file told.
    let p = err_from_is_err_and c.from_residual-in_err-run_piece.result c.from_residual-in_err-run_piece.ensures.1 in
    let r = c.pieces.invariant.read in
    let n = c.args.names.now in
    let run = g.R.Runner in
    let kept = c.read.ensures.moves.others in
    let slice = c.read.new.into in
    let count = c.in_ok-count.count in
    let same = c.pieces.invariant.setting in
    let here = c.pieces.invariant.moves.others n.capture.now (n.sent_apart, (n.report_apart, tt)) ∙ told in
    let reads = reads_at _ _ _ _ file (length r.0) count c.in_ok-count.ensures.octets here (sym r.1) refl in
    let before = streamed_still _ _ _ r.0 _ _ _ _ _ _ _ _ (kept n.sent.now tt) (kept n.report.now tt) r.4 in
    let so = streamed_by _ run.outcome _ _ _ _ r.0 _ _ _ _ _ _ (sym same) before in
    let ends = stopped_by _ run.outcome _ _ _ _ (r.0 ++ take count slice) _ _ _ _ _ same (c.in_err-run_piece.ensures.ran _ _ r.0 _ _ r.3 so) in
    rw (p.1, p.2) (pieces_stop _ _ _ (r.0 ++ take count slice) _ _ _ _ _ _ file _ _ (λ none. reads.there (ap Some none)) (front_more file r.0 slice count (r.2 file told) reads) refl ends)

pub run_piece-requires-clause-sent_there : goal.run_piece-requires-clause-sent_there
run_piece-requires-clause-sent_there g c = λ absent.
    let so = c.pieces.invariant.read.4 in
    c.requires.sent_there (grown_there _ _ (sym so.sent_is ∙ sym (c.read.ensures.moves.others c.args.names.now.sent.now tt) ∙ absent))

pub run_piece-requires-clause-report_there : goal.run_piece-requires-clause-report_there
run_piece-requires-clause-report_there g c = λ absent.
    let so = c.pieces.invariant.read.4 in
    c.requires.report_there (grown_there _ _ (sym so.report_is ∙ sym (c.read.ensures.moves.others c.args.names.now.report.now tt) ∙ absent))

pub returns-then-count-eq0-clause-report_there : goal.returns-then-count-eq0-clause-report_there
returns-then-count-eq0-clause-report_there g c = λ absent.
    let so = c.pieces.invariant.read.4 in
    c.requires.report_there (grown_there _ _ (sym so.report_is ∙ sym (c.read.ensures.moves.others c.args.names.now.report.now tt) ∙ absent))

pub returns-clause-report_there : goal.returns-clause-report_there
returns-clause-report_there g c = λ absent.
    let so = c.pieces.invariant.read.4 in
    c.requires.report_there (grown_there _ _ (sym so.report_is ∙ absent))
