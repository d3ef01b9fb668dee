use Rattle.std.proofs.Common.{map}
use Rattle.entries_file.proofs.ArgumentLaws.{ArgumentsSoFar}
use Rattle.entries_file.proofs.arguments.read_arguments.Given as goal

abbrev pub invariant-loop-i : goal.invariant-loop-i
invariant-loop-i l = ArgumentsSoFar l.widths (map (λ word. word.now) l.words) l.i l.no_number l.arguments
