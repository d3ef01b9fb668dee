use Rattle.std.proofs.Common.{◌≡◌, ℕ, length, take, get_or}
use Rattle.digraph.specs.Graphs.{Among}
use Rattle.p416_type_totals.specs.internal.Sized.{structs_of}
use Rattle.p416_type_totals.proofs.structs.structs_of.Given as goal

abbrev pub invariant-loop-node : goal.invariant-loop-node
invariant-loop-node l = record {
  each : length l.structs.items ≡ length l.types;
  written : (b : ℕ) → Among b (take l.node-index l.components.order) → get_or l.structs.items b 0 ≡ get_or (structs_of l.headers.measure l.types) b 0;
}
