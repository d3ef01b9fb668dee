use Rattle.std.proofs.Common.{◌++◌}
use Rattle.p416_types.specs.internal.Steps.{rules_from_t4, rules_from_t7, rules_from_t10}
use Rattle.p416_types.proofs.Orders.{stops, goes_on}
use Rattle.p416_types.proofs.Leaving.{left_of_t7}
use Rattle.p416_types.proofs.judge.judge_behind_t3.Goals as goal

pub judge_behind_t6-requires-clause-left : goal.judge_behind_t6-requires-clause-left
judge_behind_t6-requires-clause-left c = left_of_t7 c.args.syntax.now c.args.found.now c.requires.left (c.in-Ok.ensures c.args.syntax.now c.requires.left)

pub returns-in-Ok : goal.returns-in-Ok
returns-in-Ok c = goes_on c.args.syntax.now rules_from_t4 (rules_from_t7 ++ rules_from_t10) c.judge_behind_t6.result (c.in-Ok.ensures c.args.syntax.now c.requires.left) c.judge_behind_t6.ensures

pub returns-in-Err : goal.returns-in-Err
returns-in-Err c = stops c.args.syntax.now rules_from_t4 (rules_from_t7 ++ rules_from_t10) c.in-Err.fault (c.in-Err.ensures c.args.syntax.now c.requires.left)
