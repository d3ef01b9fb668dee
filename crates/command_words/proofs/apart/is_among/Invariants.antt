use Rattle.std.proofs.Common.{◌≡◌, map, drop}
use Rattle.command_words.specs.Apart as apart
use Rattle.command_words.proofs.apart.is_among.Given as goal

abbrev pub invariant-loop-other : goal.invariant-loop-other
invariant-loop-other l = apart.is_among l.name (map (λ other. other.now) (drop l.other-index l.names)) ≡ apart.is_among l.name (map (λ other. other.now) l.names)
