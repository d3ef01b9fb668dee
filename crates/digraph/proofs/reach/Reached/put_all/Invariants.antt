use Rattle.std.proofs.Common.{◌≡◌, take}
use Rattle.digraph.specs.internal.Reaching.{reach_all}
use Rattle.digraph.proofs.reach.Reached.put_all.Given as goal

abbrev pub invariant-loop-node : goal.invariant-loop-node
invariant-loop-node l = l.self ≡ reach_all l.fn.self (take l.node-index l.nodes)
