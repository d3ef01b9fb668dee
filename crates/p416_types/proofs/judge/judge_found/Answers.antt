use Rattle.std.proofs.Common.{◌++◌}
use Rattle.p416_types.specs.internal.Steps.{rules_from_t1, rules_from_t4, rules_from_t7, rules_from_t10}
use Rattle.p416_types.proofs.Orders.{stops, goes_on}
use Rattle.p416_types.proofs.Leaving.{first_of_all, left_of_t4}
use Rattle.p416_types.proofs.judge.judge_found.Goals as goal

pub judge_behind_t3-requires-clause-left : goal.judge_behind_t3-requires-clause-left
judge_behind_t3-requires-clause-left c =
    left_of_t4 c.args.syntax.now c.args.found.now c.requires.named (first_of_all c.args.syntax.now c.args.found.now c.requires.found)
    (c.in-Ok.ensures c.args.syntax.now c.requires.named (first_of_all c.args.syntax.now c.args.found.now c.requires.found))

pub returns-in-Ok : goal.returns-in-Ok
returns-in-Ok c =
    goes_on c.args.syntax.now rules_from_t1 (rules_from_t4 ++ (rules_from_t7 ++ rules_from_t10)) c.judge_behind_t3.result (c.in-Ok.ensures c.args.syntax.now c.requires.named (first_of_all c.args.syntax.now c.args.found.now c.requires.found))
    c.judge_behind_t3.ensures

pub returns-in-Err : goal.returns-in-Err
returns-in-Err c =
    stops c.args.syntax.now rules_from_t1 (rules_from_t4 ++ (rules_from_t7 ++ rules_from_t10)) c.in-Err.fault (c.in-Err.ensures c.args.syntax.now c.requires.named (first_of_all c.args.syntax.now c.args.found.now c.requires.found))
