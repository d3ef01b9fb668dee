use Rattle.std.proofs.Common.{All}
use Rattle.match_core.specs.Fits.{FitsKeys}
use Rattle.base_examples.proofs.tables.many_entries.Given as goal

abbrev pub invariant-loop-number : goal.invariant-loop-number
invariant-loop-number l = All (FitsKeys l.specs) l.entries.items
