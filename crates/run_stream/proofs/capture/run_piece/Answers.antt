use Rattle.std.proofs.Common.{inl, inr, refl, sym, ◌∙◌, ap}
use Rattle.std.proofs.lemmas.Result.{err_from_is_err_and}
use Rattle.run_stream.specs.internal.Streams.{Held, View, view_of}
use Rattle.run_stream.proofs.Pieces.{piece_unread, piece_cut, piece_refused, piece_run}
use Rattle.run_stream.proofs.capture.run_piece.Goals as goal

pub returns-in_err-refused-clause-ran : goal.returns-in_err-refused-clause-ran
returns-in_err-refused-clause-ran g c = λ store ports octets sent report unbroken so.
    let p = err_from_is_err_and c.from_residual.result c.from_residual.ensures.1 in
    let r = g.R.Runner in
    let before = view_of c.args.stream.now (r.store c.args.runner.now) (r.done c.args.runner.now) in
    rw p.1 (inr (piece_unread _ store ports octets _ unbroken sent report _ _ _ _ _ c.args.reader.now _ before before so p.0 (inr p.2) refl refl))

pub returns-in_err-flush-clause-ran : goal.returns-in_err-flush-clause-ran
returns-in_err-flush-clause-ran g c = λ store ports octets sent report unbroken so.
    let p = err_from_is_err_and c.from_residual-in_err-flush.result c.from_residual-in_err-flush.ensures.1 in
    let r = g.R.Runner in
    let before = view_of c.args.stream.now (r.store c.args.runner.now) (r.done c.args.runner.now) in
    let given = c.in_ok-refused.ensures in
    let done = c.in_err-flush.ensures in
    rw p.1 (inr (piece_cut _ store ports octets _ unbroken sent report _ _ _ _ _ c.args.reader.now _ _ before so p.0 (p.2 ∙ done.only) (given.known, given.ran) done.part_sent done.part_report))

pub returns-in-Some-clause-ran : goal.returns-in-Some-clause-ran
returns-in-Some-clause-ran g c = λ store ports octets sent report unbroken so.
    let r = g.R.Runner in
    let before = view_of c.args.stream.now (r.store c.args.runner.now) (r.done c.args.runner.now) in
    let given = c.in_ok-refused.ensures in
    let done = c.in_ok-flush.ensures in
    inl (piece_refused _ store ports octets _ unbroken sent report _ _ _ _ _ c.args.reader.now _ _ before so _ (given.known, given.ran) (sym c.in-Some.is ∙ given.refused) done.sent done.report)

pub returns-in-None-clause-ran : goal.returns-in-None-clause-ran
returns-in-None-clause-ran g c = λ store ports octets sent report unbroken so.
    let r = g.R.Runner in
    let given = c.in_ok-refused.ensures in
    let done = c.in_ok-flush.ensures in
    let emptied_is = ap (λ (h : Held). let v : View r.Store = record { held = h; store = r.store c.feed.new.runner; work = r.done c.feed.new.runner } in v) done.emptied in
    piece_run _ store ports octets _ unbroken sent report _ _ _ _ _ _ _ _ _ so (given.known, given.ran) given.reads (sym c.in-None.is ∙ given.refused) done.sent done.report emptied_is
