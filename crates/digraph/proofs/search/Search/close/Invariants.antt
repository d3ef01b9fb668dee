use Rattle.std.proofs.Common.{◌≡◌, ◌++◌, length, map}
use Rattle.digraph.specs.internal.Search.{AreWaiting, kept, shed, shut}
use Rattle.digraph.proofs.search.Search.close.Given as goal

abbrev pub invariant-loop-node : goal.invariant-loop-node
invariant-loop-node l = record {
  waiting : AreWaiting l.self-inside.marks.items l.self-inside.waiting;
  marks : map (shut l.begin l.fn.self.count) l.self-inside.marks.items ≡ map (shut l.begin l.fn.self.count) l.fn.self.marks;
  kept : kept l.begin l.self-inside.waiting ≡ kept l.begin l.fn.self.waiting;
  order : l.self-inside.order.items ++ shed l.begin l.self-inside.waiting ≡ l.fn.self.order ++ shed l.begin l.fn.self.waiting;
  begins : l.self-inside.begins ≡ l.fn.self.begins;
  path : l.self-inside.path ≡ l.fn.self.path;
  count : l.self-inside.count ≡ l.fn.self.count;
}

abbrev pub decreases-loop-node : goal.decreases-loop-node
decreases-loop-node l = length l.self-inside.waiting
