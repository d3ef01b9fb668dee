use Rattle.std.proofs.Common.{◌≡◌, [], replicate}
use Rattle.entries_file.proofs.draft.no_colours.Given as goal

abbrev pub invariant-loop : goal.invariant-loop
invariant-loop l = l.lists.items ≡ replicate l.counter []
