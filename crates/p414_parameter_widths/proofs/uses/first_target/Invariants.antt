use Rattle.std.proofs.Common.{◌≡◌, map, drop}
use Rattle.std.specs.Prelude.{filter_map}
use Rattle.p414_call_check.specs.Shown.{shown_placed}
use Rattle.p414_sem.specs.Signatures.{first_of, target_bits}
use Rattle.p414_parameter_widths.proofs.uses.first_target.Given as goal

abbrev pub invariant-loop-argument : goal.invariant-loop-argument
invariant-loop-argument l =
    first_of (filter_map (target_bits l.names) (map shown_placed (drop l.argument-index l.placed)))
    ≡ first_of (filter_map (target_bits l.names) (map shown_placed l.placed))
