use Rattle.std.proofs.Common.{◌+◌, ◌*◌, max}
use Rattle.v1_core.proofs.expressions.Expressions.+value.Given as goal

-- what an operator takes is behind its operands and in front of each expression that has it

abbrev pub decreases-value : goal.decreases-value
decreases-value l = 4 * l.place + 1

abbrev pub decreases-value_within : goal.decreases-value_within
decreases-value_within l = 4 * l.place

abbrev pub decreases-both : goal.decreases-both
decreases-both l = 4 * max l.a l.b + 3

abbrev pub decreases-either : goal.decreases-either
decreases-either l = 4 * max l.a l.b + 3

abbrev pub decreases-pair : goal.decreases-pair
decreases-pair l = 4 * max l.a l.b + 3

abbrev pub decreases-choice : goal.decreases-choice
decreases-choice l = 4 * max l.condition (max l.yes l.no) + 3

abbrev pub decreases-operand : goal.decreases-operand
decreases-operand l = 4 * l.place + 2
