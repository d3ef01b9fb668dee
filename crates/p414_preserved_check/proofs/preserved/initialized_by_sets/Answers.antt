use Rattle.std.proofs.Common.{length, ap, ◌∙◌}
use Rattle.p414_syntax.specs.Preserved.{is_initialized}
use Rattle.p414_preserved_check.specs.internal.Asking.{initialized_by}
use Rattle.p414_preserved_check.proofs.Own.{initialized_asks}
use Rattle.p414_preserved_check.proofs.Marking.{own_each}
use Rattle.p414_preserved_check.proofs.preserved.initialized_by_sets.Goals as goal

pub list_marks-requires-clause-own : goal.list_marks-requires-clause-own
list_marks-requires-clause-own c = ap length (c.deref.ensures.value ∙ c.in_ok-own.ensures) ∙ own_each c.args.names.now (initialized_by c.args.names.now c.args.sets.now)

pub returns : goal.returns
returns c = c.in_ok-marks.ensures (is_initialized c.args.names.now) (initialized_by c.args.names.now c.args.sets.now) (initialized_asks c.args.names.now c.args.sets.now c.requires.sets) (c.deref.ensures.value ∙ c.in_ok-own.ensures)
