use Rattle.std.proofs.Common.{◌≡◌, ◌++◌, map, drop}
use Rattle.std.specs.List.{flat_map}
use Rattle.p414_syntax.specs.Uses.{uses_of_read}
use Rattle.p414_uses.specs.Shown.{shown_use}
use Rattle.p414_uses.proofs.collect.tables.add_reads.Given as goal

abbrev pub invariant-loop-read : goal.invariant-loop-read
invariant-loop-read l = map shown_use l.found.items ++ flat_map uses_of_read (drop l.read-index l.reads) ≡ map shown_use l.fn.found.items ++ flat_map uses_of_read l.reads
