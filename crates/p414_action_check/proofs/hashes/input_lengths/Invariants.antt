use Rattle.std.proofs.Common.{◌≡◌, ◌++◌, drop, map}
use Rattle.p414_action_check.specs.internal.Counted.{calculations, input_length, input_lengths}
use Rattle.p414_action_check.proofs.hashes.input_lengths.Given as goal

abbrev pub invariant-loop-decl : goal.invariant-loop-decl
invariant-loop-decl l = l.found.items ++ map (input_length l.names l.lengths) (calculations (drop l.decl-index l.names)) ≡ input_lengths l.names l.lengths
