use Rattle.std.proofs.lemmas.Result.{on_ok_weaker}
use Rattle.p416_syntax.specs.Declarations.{top_names}
use Rattle.p416_expression_uses.proofs.spots.push_parts.Goals as goal

pub returns-in-Passed : goal.returns-in-Passed
returns-in-Passed c = rw c.in-Passed.is (on_ok_weaker c.fill_parts.result (λ put. put (top_names c.args.top.now)) c.fill_parts.ensures)
