use Rattle.std.proofs.Common.{◌≡◌, ◌++◌, map, drop}
use Rattle.p416_syntax.specs.Unknown.{held_by}
use Rattle.p416_type_totals.proofs.graph.struct_graph.Given as goal

abbrev pub invariant-loop-decl : goal.invariant-loop-decl
invariant-loop-decl l = l.graph ++ map (held_by l.types) (drop l.decl-index l.types) ≡ map (held_by l.types) l.types
