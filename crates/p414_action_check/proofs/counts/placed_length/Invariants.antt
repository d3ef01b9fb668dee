use Rattle.std.proofs.Common.{◌≡◌, ◌+◌, ◌≤◌, min, drop, map}
use Rattle.p414_calls.specs.Shown.{shown_argument}
use Rattle.p414_action_check.specs.internal.Counted.{placed_length}
use Rattle.p414_action_check.proofs.counts.placed_length.Given as goal

abbrev pub invariant-loop-argument : goal.invariant-loop-argument
invariant-loop-argument l =
    (min 65537 (l.total + placed_length l.names l.inputs l.left (map shown_argument (drop l.argument-index l.arguments))) ≡ min 65537 (placed_length l.names l.inputs l.places (map shown_argument l.arguments)))
    × (l.total ≤ 65537)
