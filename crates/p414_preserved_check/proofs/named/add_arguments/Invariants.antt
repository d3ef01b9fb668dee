use Rattle.std.proofs.Common.{◌≡◌, ◌++◌, drop, map}
use Rattle.p414_syntax.specs.References.{referred}
use Rattle.p414_calls.specs.Shown.{shown_argument}
use Rattle.p414_preserved_check.specs.internal.Named.{named_among}
use Rattle.p414_preserved_check.proofs.named.add_arguments.Given as goal

abbrev pub invariant-loop-k : goal.invariant-loop-k
invariant-loop-k l = map referred l.found.items ++ named_among l.wanted (drop l.k l.places) (map shown_argument (drop l.k l.arguments)) ≡ map referred l.fn.found.items ++ named_among l.wanted l.places (map shown_argument l.arguments)
