use Rattle.std.proofs.Common.{◌-◌, ◌+◌, ◌≡◌, ℕ, List, [], Option, Some, vec_len}
use Rattle.p4x_io.specs.Desk.{Moves}
use Rattle.p4x_io.proofs.Reading.{Front}
use Rattle.p4x_io.proofs.files.calls.read_file.Given as goal

abbrev pub invariant-loop-piece : goal.invariant-loop-piece
invariant-loop-piece g l = record {
  moves : Moves [] (g.D.Desk.view l.fn.desk) (g.D.Desk.view l.desk);
  front : (file : Option (List ℕ)) → (g.D.Desk.view l.fn.desk).told l.name ≡ Some file → Front file l.text.items;
}

abbrev pub decreases-loop-piece : goal.decreases-loop-piece
decreases-loop-piece g l = l.limit + 1 - vec_len l.text
