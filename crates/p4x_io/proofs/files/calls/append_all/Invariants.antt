use Rattle.std.proofs.Common.{length, ◌-◌, ◌≡◌, ◌≤◌, [], ◌∷◌, take}
use Rattle.p4x_io.specs.Desk.{Moves, grown}
use Rattle.p4x_io.proofs.files.calls.append_all.Given as goal

abbrev pub invariant-loop-at : goal.invariant-loop-at
invariant-loop-at g l = record {
  bound : l.at ≤ length l.text;
  moves : Moves (l.name ∷ []) (g.D.Desk.view l.fn.desk) (g.D.Desk.view l.desk);
  so_far : (g.D.Desk.view l.desk).told l.name ≡ grown ((g.D.Desk.view l.fn.desk).told l.name) (take l.at l.text);
}

abbrev pub decreases-loop-at : goal.decreases-loop-at
decreases-loop-at g l = length l.text - l.at
