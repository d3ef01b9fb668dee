use Rattle.std.proofs.Common.{arith}
use Rattle.lower_marks.proofs.Marking.{turn, turn_length}
use Rattle.lower_marks.proofs.marks.marks_by.Goals as goal

pub loop-i-preserved : goal.loop-i-preserved
loop-i-preserved c = record {
  rows =
      turn c.loop-i.found c.push.new.self c.args.preserved.now c.loop-i.i c.loop-i.number c.next_mark-number.result c.in_ok-mark_if.field-0 _ _
      c.loop-i-test.true c.loop-i.invariant.same c.loop-i.invariant.rows c.in_ok-mark_if.ensures c.next_mark-number.ensures.is
      c.in_ok-push.ensures.ok;
  same = turn_length c.loop-i.found c.push.new.self c.in_ok-mark_if.field-0 c.loop-i.i c.loop-i.invariant.same c.in_ok-push.ensures.ok;
  few = omega (arith, c.next_mark-number.ensures.fits, c.loop-i.invariant.few);
}
