use Rattle.std.proofs.lemmas.Result.{on_ok_weaker}
use Rattle.p416_decl_writer.proofs.Mapped.{keys_written}
use Rattle.p416_decl_writer.proofs.tables.write_keys.Goals as goal

pub returns : goal.returns
returns c = on_ok_weaker c.put_tokens-2.result (λ e. keys_written _ _ _ _ c.args.keys.now c.in_ok-put_tokens.ensures c.in_ok-write_all.ensures e) c.put_tokens-2.ensures
