use Rattle.std.proofs.Common.{◌≡◌, replicate}
use Rattle.entries_file.specs.internal.KeySets.{no_numbers}
use Rattle.entries_file.proofs.key_set.no_numbers.Given as goal

abbrev pub invariant-loop : goal.invariant-loop
invariant-loop l = l.sets.items ≡ replicate l.counter no_numbers
