use Rattle.p416_types.proofs.Leaving.{t1_cycle, named_by}
use Rattle.p416_types.proofs.judge.judge_named.Goals as goal

pub returns-in-None : goal.returns-in-None
returns-in-None c = t1_cycle c.args.syntax.now c.args.top.now _ c.requires.top (rw c.in-None.is at c.in_ok-totals.ensures) c.refusal.ensures

pub judge_declarations-requires-clause-named : goal.judge_declarations-requires-clause-named
judge_declarations-requires-clause-named c = named_by c.args.syntax.now c.args.top.now c.requires.named c.requires.top (rw c.in-Some.is at c.in_ok-totals.ensures).1
