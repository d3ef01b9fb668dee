use Rattle.std.proofs.Common.{◌≡◌}
use Rattle.std.specs.List.{list_any}
use Rattle.p416_syntax.specs.Statements.{labels_of}
use Rattle.p416_listed_check.specs.internal.Labels.{is_outside_listed, case_count}
use Rattle.p416_listed_check.proofs.labels.some_outside.Given as goal

abbrev pub invariant-loop-before : goal.invariant-loop-before
invariant-loop-before l = list_any (is_outside_listed l.known l.listed.1 l.table) (labels_of l.left) ≡ list_any (is_outside_listed l.known l.listed.1 l.table) (labels_of l.cases)

abbrev pub decreases-loop-before : goal.decreases-loop-before
decreases-loop-before l = case_count l.left
