use Rattle.std.proofs.lemmas.Result.{on_ok_weaker}
use Rattle.p416_decl_writer.proofs.Mapped.{tuple_written}
use Rattle.p416_decl_writer.proofs.states.KeysetWritten.write.Goals as goal

pub returns-in_ok-write_by_commas-in-Tuple : goal.returns-in_ok-write_by_commas-in-Tuple
returns-in_ok-write_by_commas-in-Tuple c =
    rw (c.in-Tuple.is, ← c.as_slice.ensures)
    (on_ok_weaker c.put_tokens-in-Tuple.result
    (λ e. tuple_written _ _ _ _ c.as_slice.result.now c.in_ok-put_tokens-in-Tuple.ensures c.in_ok-write_by_commas-in-Tuple.ensures e)
    c.put_tokens-in-Tuple.ensures)
