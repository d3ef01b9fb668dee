use Rattle.std.proofs.Common.{◌≡◌, take, drop}
use Rattle.entries_file.specs.Cuts.{cut}
use Rattle.entries_file.proofs.CutLaws.{fronted}
use Rattle.entries_file.proofs.cuts.cut.Given as goal

abbrev pub invariant-loop-at : goal.invariant-loop-at
invariant-loop-at l = cut l.mark l.word ≡ fronted (take l.at l.word) (cut l.mark (drop l.at l.word))
