use Rattle.std.proofs.lemmas.Result.{on_ok_weaker}
use Rattle.p416_decl_writer.proofs.Mapped.{parser_written}
use Rattle.p416_decl_writer.proofs.parsers.Parser16Written.write.Goals as goal

pub returns : goal.returns
returns c =
    on_ok_weaker c.put_tokens-2.result
    (λ e. parser_written _ _ _ _ _ _ _ c.args.self.now
    c.in_ok-write_heading.ensures (rw c.as_slice.ensures at c.in_ok-write_params.ensures) c.in_ok-put_tokens.ensures
    (rw c.as_slice-vars.ensures at c.in_ok-write_all.ensures) (rw c.as_slice-2.ensures at c.in_ok-write_all-2.ensures) e)
    c.put_tokens-2.ensures
