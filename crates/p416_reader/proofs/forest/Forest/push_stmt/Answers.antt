use Rattle.std.proofs.lemmas.Result.{on_ok_weaker}
use Rattle.p416_reader.proofs.Kept.{within_stmt_on, put_stmt}
use Rattle.p416_reader.proofs.forest.Forest.push_stmt.Goals as goal

pub invariant_of-self-2 : goal.invariant_of-self-2
invariant_of-self-2 c = within_stmt_on c.push.result c.in_ok-place.ensures.ok c.push.ensures.ok c.push.ensures.err c.self.invariant

pub returns : goal.returns
returns c = on_ok_weaker c.push.result (λ h. put_stmt c.args.node c.self.invariant c.self.view_is c.in_ok-place.ensures.ok h) c.push.ensures.ok
