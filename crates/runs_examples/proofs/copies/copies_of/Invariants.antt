use Rattle.std.specs.Prelude.{All}
use Rattle.fabric.specs.Numbers.{HasPort}
use Rattle.runs_examples.proofs.copies.copies_of.Given as goal

abbrev pub invariant-loop-made : goal.invariant-loop-made
invariant-loop-made l = All HasPort l.arrivals.items
