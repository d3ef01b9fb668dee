use Rattle.std.proofs.lemmas.Result.{on_ok_weaker}
use Rattle.p416_decl_writer.proofs.Mapped.{table_written}
use Rattle.p416_decl_writer.proofs.tables.Table16Written.write.Goals as goal

pub returns : goal.returns
returns c =
    on_ok_weaker c.put_tokens-2.result
    (λ e. table_written _ _ _ _ _ _ c.args.self.now
    (rw c.as_slice.ensures at c.in_ok-line.ensures) c.in_ok-write_heading.ensures c.in_ok-put_tokens.ensures
    (rw c.as_slice-2.ensures at c.in_ok-write_all.ensures) e)
    c.put_tokens-2.ensures
