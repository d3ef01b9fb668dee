use Rattle.std.proofs.Common.{◌≡◌, ℕ, length, take}
use Rattle.digraph.specs.Graphs.{Among}
use Rattle.p414_syntax.specs.Expansion.{lists}
use Rattle.p414_field_lists.specs.Meaning.{IsReady}
use Rattle.p414_field_lists.proofs.lists.rows_of_lists.Given as goal

abbrev pub invariant-loop-list : goal.invariant-loop-list
invariant-loop-list l = record {
  count : length l.ready.items ≡ length (lists l.slots);
  known : (b : ℕ) → Among b (take l.list-index l.components.order) → IsReady l.slots l.ready.items b;
}
