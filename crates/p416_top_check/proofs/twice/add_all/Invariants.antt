use Rattle.std.proofs.Common.{◌≡◌, ◌++◌, map, drop}
use Rattle.p416_top_check.proofs.twice.add_all.Given as goal

abbrev pub invariant-loop-name : goal.invariant-loop-name
invariant-loop-name l = map (λ name. name.now) l.names.items ++ map (λ name. name.now) (drop l.name-index l.more) ≡ map (λ name. name.now) l.fn.names.items ++ map (λ name. name.now) l.more
