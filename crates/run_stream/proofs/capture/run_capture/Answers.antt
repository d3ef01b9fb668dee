use Rattle.std.proofs.Common.{◌≡◌, ◌↔◌, ◌<◌, ◌≤◌, ℕ, nat_lt, Bool, true, false, IsTrue, List, length, Some, refl, ◌∙◌, ap, arith}
use Rattle.std.proofs.lemmas.Bool.Decides.{nat_tests}
use Rattle.std.proofs.lemmas.Result.{err_from_is_err_and}
use Rattle.run_stream.specs.Captured.{capture_limit}
use Rattle.run_stream.specs.internal.Streams.{Held}
use Rattle.run_stream.proofs.Delivering.{pieces_stopped, pieces_refused, pieces_reported, pieces_partly, reported_by, partly_by}
use Rattle.run_stream.proofs.Pieces.{ends_from}
use Rattle.run_stream.proofs.capture.run_capture.Goals as goal

pub run_pieces-requires-clause-reader : goal.run_pieces-requires-clause-reader
run_pieces-requires-clause-reader g c = c.new-reader.ensures

-- a file without an octet at the place of the limit isn't over it
not_over : (found : Bool) (n : ℕ) → found ≡ false → IsTrue found ↔ (capture_limit < n) → n ≤ capture_limit
not_over found n is exact = by_size (nat_lt capture_limit n) refl
  where
    by_size : (long : Bool) → nat_lt capture_limit n ≡ long → n ≤ capture_limit
    by_size true e = let there : IsTrue found = exact.1 (grind (arith, nat_tests)) in absurd (cc (there, is))
    by_size false e = grind (arith, nat_tests)

pub returns-in_err-run_pieces-clause-gives : goal.returns-in_err-run_pieces-clause-gives
returns-in_err-run_pieces-clause-gives g c = λ file told.
    let p = err_from_is_err_and c.from_residual-in_err-run_pieces.result c.from_residual-in_err-run_pieces.ensures.1 in
    let few = g.met.R.Runner.few (g.R.Runner.setting c.args.runner.now) in
    let n = c.args.names.now in
    let kept = c.has_octet.ensures.moves.others in
    let fits : (text : List ℕ) → file ≡ Some text → length text ≤ capture_limit = λ text is. not_over _ _ c.if-branch.false (c.in_ok-has_octet.ensures.exact text (told ∙ ap Some is)) in
    let ends = c.in_err-run_pieces.ensures.gives file (kept n.capture.now tt ∙ told) in
    let from = ends_from _ _ _ c.args.ports.now file _ _ _ _ _ _ _ _ _ (ap (λ (h : Held). h.ports) c.new-stream.ensures) (kept n.sent.now tt) (kept n.report.now tt) ends in
    rw (p.1, p.2) (pieces_stopped _ _ _ _ (g.R.Runner.end_lines (g.R.Runner.setting c.args.runner.now)) _ _ few c.args.ports.now _ _ file c.in_err-run_pieces.field-0.0 _ refl fits from)

pub returns-in_err-end_capture-clause-gives : goal.returns-in_err-end_capture-clause-gives
returns-in_err-end_capture-clause-gives g c = λ file told.
    let p = err_from_is_err_and c.from_residual-in_err-end_capture.result c.from_residual-in_err-end_capture.ensures.1 in
    let few = g.met.R.Runner.few (g.R.Runner.setting c.args.runner.now) in
    let n = c.args.names.now in
    let kept = c.has_octet.ensures.moves.others in
    let fits : (text : List ℕ) → file ≡ Some text → length text ≤ capture_limit = λ text is. not_over _ _ c.if-branch.false (c.in_ok-has_octet.ensures.exact text (told ∙ ap Some is)) in
    let ends = c.in_ok-run_pieces.ensures.gives file (kept n.capture.now tt ∙ told) in
    let from = ends_from _ _ _ c.args.ports.now file _ _ _ _ _ _ _ _ _ (ap (λ (h : Held). h.ports) c.new-stream.ensures) (kept n.sent.now tt) (kept n.report.now tt) ends in
    let found = c.in_err-end_capture.ensures.refused in
    rw (p.1, p.2, found.2) (pieces_refused _ _ _ _ (g.R.Runner.end_lines (g.R.Runner.setting c.args.runner.now)) _ _ few c.args.ports.now _ _ file found.0 fits from found.1)

pub returns-in_err-end_report-clause-gives : goal.returns-in_err-end_report-clause-gives
returns-in_err-end_report-clause-gives g c = λ file told.
    let p = err_from_is_err_and c.from_residual-in_err-end_report.result c.from_residual-in_err-end_report.ensures.1 in
    let few = g.met.R.Runner.few (g.R.Runner.setting c.args.runner.now) in
    let n = c.args.names.now in
    let kept = c.has_octet.ensures.moves.others in
    let fits : (text : List ℕ) → file ≡ Some text → length text ≤ capture_limit = λ text is. not_over _ _ c.if-branch.false (c.in_ok-has_octet.ensures.exact text (told ∙ ap Some is)) in
    let ends = c.in_ok-run_pieces.ensures.gives file (kept n.capture.now tt ∙ told) in
    let from = ends_from _ _ _ c.args.ports.now file _ _ _ _ _ _ _ _ _ (ap (λ (h : Held). h.ports) c.new-stream.ensures) (kept n.sent.now tt) (kept n.report.now tt) ends in
    let still = c.end_report.ensures.moves.others n.sent.now (n.apart, tt) in
    let failed = c.in_err-end_report.ensures in
    let same = ap (λ (s : g.R.Runner.Setting). g.R.Runner.end_lines s (g.R.Runner.store c.run_pieces.new.runner) (g.R.Runner.done c.run_pieces.new.runner)) c.in_ok-run_pieces.ensures.setting in
    let part = partly_by _ _ _ _ _ _ _ same failed.part in
    rw (p.1, p.2, still) (pieces_partly _ _ _ _ _ (g.R.Runner.end_lines (g.R.Runner.setting c.args.runner.now)) _ _ few c.args.ports.now _ _ file _ fits from c.in_ok-end_capture.ensures.ends failed.only part)

pub returns-clause-gives : goal.returns-clause-gives
returns-clause-gives g c = λ file told.
    let few = g.met.R.Runner.few (g.R.Runner.setting c.args.runner.now) in
    let n = c.args.names.now in
    let kept = c.has_octet.ensures.moves.others in
    let fits : (text : List ℕ) → file ≡ Some text → length text ≤ capture_limit = λ text is. not_over _ _ c.if-branch.false (c.in_ok-has_octet.ensures.exact text (told ∙ ap Some is)) in
    let ends = c.in_ok-run_pieces.ensures.gives file (kept n.capture.now tt ∙ told) in
    let from = ends_from _ _ _ c.args.ports.now file _ _ _ _ _ _ _ _ _ (ap (λ (h : Held). h.ports) c.new-stream.ensures) (kept n.sent.now tt) (kept n.report.now tt) ends in
    let still = c.end_report.ensures.moves.others n.sent.now (n.apart, tt) in
    let same = ap (λ (s : g.R.Runner.Setting). g.R.Runner.end_lines s (g.R.Runner.store c.run_pieces.new.runner) (g.R.Runner.done c.run_pieces.new.runner)) c.in_ok-run_pieces.ensures.setting in
    let now = reported_by _ _ _ _ _ _ _ same c.in_ok-end_report.ensures.line in
    rw still (pieces_reported _ _ _ _ _ (g.R.Runner.end_lines (g.R.Runner.setting c.args.runner.now)) _ _ few c.args.ports.now _ _ file fits from c.in_ok-end_capture.ensures.ends now)

pub returns-clause-known : goal.returns-clause-known
returns-clause-known g c = λ text told.
    let n = c.args.names.now in
    let kept = c.has_octet.ensures.moves.others in
    let fits : length text ≤ capture_limit = not_over _ _ c.if-branch.false (c.in_ok-has_octet.ensures.exact text told) in
    let ends = c.in_ok-run_pieces.ensures.gives (Some text) (kept n.capture.now tt ∙ told) in
    (ends fits).1.known
