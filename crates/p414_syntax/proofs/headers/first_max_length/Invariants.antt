use Rattle.std.proofs.Common.{◌≡◌, drop, map}
use Rattle.p414_syntax.specs.Views.{tail_tree}
use Rattle.p414_syntax.specs.Attributes.{max_length_of}
use Rattle.p414_syntax.proofs.headers.first_max_length.Given as goal

abbrev pub invariant-loop-tail : goal.invariant-loop-tail
invariant-loop-tail l =
    max_length_of (map (tail_tree l.nodes) (drop l.tail-index l.tails)) ≡ max_length_of (map (tail_tree l.nodes) l.tails)
