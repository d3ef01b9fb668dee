-- what was put there, and what is left
use Rattle.std.proofs.Common.{◌≡◌, ◌++◌, map}
use Rattle.std.specs.Vec.Iter.{into_iter_items}
use Rattle.fabric.specs.Fabric.{numbered}
use Rattle.fabric.proofs.arrivals.add_sent.Given as goal

abbrev pub invariant-loop-out : goal.invariant-loop-out
invariant-loop-out l = l.sent ++ map (numbered l.arrival) (into_iter_items l.out-iterator) ≡ l.fn.sent ++ map (numbered l.arrival) l.fn.outs
