use Rattle.std.proofs.Common.{◌≡◌, drop, map}
use Rattle.p416_syntax.specs.Names.{repeats}
use Rattle.p416_name_set.proofs.Repeating.{repeats_behind}
use Rattle.p416_name_set.proofs.repeated.is_repeated.Given as goal

abbrev pub invariant-loop-name : goal.invariant-loop-name
invariant-loop-name l = repeats_behind l.seen (map (λ name. name.now) (drop l.name-index l.names)) ≡ repeats (map (λ name. name.now) l.names)
