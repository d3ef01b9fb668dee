use Rattle.std.proofs.Common.{◌≡◌, sum_by}
use Rattle.std.specs.List.{list_any}
use Rattle.p416_syntax.specs.ParserStates.{extracts}
use Rattle.p416_state_check.proofs.Walked.{walked}
use Rattle.p416_state_check.proofs.body.extracts.Given as goal

abbrev pub invariant-loop-next : goal.invariant-loop-next
invariant-loop-next l = list_any extracts l.left ≡ extracts l.statements

abbrev pub decreases-loop-next : goal.decreases-loop-next
decreases-loop-next l = sum_by walked l.left
