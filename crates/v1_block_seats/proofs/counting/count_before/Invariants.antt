use Rattle.std.proofs.Common.{◌≡◌, ◌+◌, drop}
use Rattle.v1_block_laws.specs.Variables.{count_before}
use Rattle.v1_block_seats.specs.internal.Wanted.{test_of}
use Rattle.v1_block_seats.proofs.counting.count_before.Given as goal

abbrev pub invariant-loop-declared : goal.invariant-loop-declared
invariant-loop-declared l =
    l.count + count_before l.syntax (test_of l.wanted) (drop l.declared-index l.decls) ≡ count_before l.syntax (test_of l.wanted) l.decls
