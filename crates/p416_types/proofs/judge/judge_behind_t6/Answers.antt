use Rattle.p416_types.proofs.Leaving.{left_of_t10}
use Rattle.p416_types.proofs.judge.judge_behind_t6.Goals as goal

pub judge_from_t10-requires-clause-left : goal.judge_from_t10-requires-clause-left
judge_from_t10-requires-clause-left c = left_of_t10 c.args.syntax.now c.args.found.now c.requires.left c.in_ok-judge_from_t7.ensures
