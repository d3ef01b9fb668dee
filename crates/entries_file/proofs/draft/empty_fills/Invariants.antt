use Rattle.std.proofs.Common.{◌≡◌, replicate}
use Rattle.entries_file.specs.Filling.{empty_fill}
use Rattle.entries_file.proofs.draft.empty_fills.Given as goal

abbrev pub invariant-loop : goal.invariant-loop
invariant-loop l = l.fills.items ≡ replicate l.counter empty_fill
