use Rattle.std.proofs.Common.{◌≡◌, drop}
use Rattle.p414_syntax.specs.Names.{repeats, repeats_behind}
use Rattle.p414_names.proofs.twice.is_twice.Given as goal

abbrev pub invariant-loop-name : goal.invariant-loop-name
invariant-loop-name l = repeats_behind l.set (drop l.name-index l.names) ≡ repeats l.names
