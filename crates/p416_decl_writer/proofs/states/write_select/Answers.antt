use Rattle.std.proofs.lemmas.Result.{on_ok_weaker}
use Rattle.p416_decl_writer.proofs.Mapped.{select_written}
use Rattle.p416_decl_writer.proofs.states.write_select.Goals as goal

pub returns : goal.returns
returns c =
    on_ok_weaker c.put_tokens-3.result
    (λ e. select_written _ _ _ _ _ _ c.args.keys.now c.args.cases.now
    c.in_ok-put_tokens.ensures c.in_ok-write_by_commas.ensures c.in_ok-put_tokens-2.ensures c.in_ok-write_all.ensures e)
    c.put_tokens-3.ensures
