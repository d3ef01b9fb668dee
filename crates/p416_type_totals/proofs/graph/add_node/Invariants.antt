use Rattle.std.proofs.Common.{◌≡◌, [], ◌∷◌, ◌++◌, take}
use Rattle.p416_type_totals.proofs.graph.add_node.Given as goal

abbrev pub invariant-loop-target : goal.invariant-loop-target
invariant-loop-target l = l.graph ≡ l.fn.graph ++ take l.target-index l.targets ∷ []
