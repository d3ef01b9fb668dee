use Rattle.std.proofs.Common.{length, ◌-◌, ◌≡◌, ◌≤◌, take}
use Rattle.p4x_io.specs.Desk.{said}
use Rattle.p4x_io.proofs.files.calls.print_all.Given as goal

abbrev pub invariant-loop-at : goal.invariant-loop-at
invariant-loop-at g l = record {
  bound : l.at ≤ length l.text;
  later : (g.K.Sink.view l.fn.out).writes ≤ (g.K.Sink.view l.out).writes;
  so_far : (g.K.Sink.view l.out).printed ≡ said (g.K.Sink.view l.fn.out).printed (take l.at l.text);
}

abbrev pub decreases-loop-at : goal.decreases-loop-at
decreases-loop-at g l = length l.text - l.at
