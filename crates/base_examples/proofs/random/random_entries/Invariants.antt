use Rattle.std.proofs.Common.{◌≤◌, length, All}
use Rattle.match_core.specs.Fits.{FitsKeys}
use Rattle.base_examples.proofs.random.random_entries.Given as goal

abbrev pub invariant-loop : goal.invariant-loop
invariant-loop l = record {
  few : length l.entries.items ≤ l.counter;
  fits : All (FitsKeys l.specs) l.entries.items;
}
