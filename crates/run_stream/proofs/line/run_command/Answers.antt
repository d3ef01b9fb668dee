use Rattle.std.proofs.lemmas.Result.{err_from_is_err_and}
use Rattle.run_stream.proofs.Lined.{line_stops, line_ends, line_lacks}
use Rattle.run_stream.proofs.line.run_command.Goals as goal

pub returns-in_err-counts-clause-gives : goal.returns-in_err-counts-clause-gives
returns-in_err-counts-clause-gives g c = λ file told.
    let p = err_from_is_err_and c.from_residual.result c.from_residual.ensures.1 in
    rw (p.1, p.2) (line_stops c.args.word.now _ _ _ _ _ _ (c.in_err-counts.ensures.gives file told))

pub returns-in_err-line-clause-gives : goal.returns-in_err-line-clause-gives
returns-in_err-line-clause-gives g c = λ file told.
    let p = err_from_is_err_and c.from_residual-in_err-line.result c.from_residual-in_err-line.ensures.1 in
    rw (p.1, p.2) (line_lacks c.args.word.now _ _ _ _ _ _ (c.in_ok-counts.ensures.gives file told))

pub returns-clause-gives : goal.returns-clause-gives
returns-clause-gives g c = λ file told.
    rw c.in_ok-line.ensures (line_ends c.args.word.now _ _ _ _ _ _ (c.in_ok-counts.ensures.gives file told))
