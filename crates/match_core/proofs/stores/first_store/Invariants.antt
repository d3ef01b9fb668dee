use Rattle.std.proofs.Common.{◌≡◌, take}
use Rattle.state_store.specs.State.{IsStore}
use Rattle.match_core.specs.Stores.{shapes_of, zero_store, with_colours}
use Rattle.match_core.proofs.stores.first_store.Given as goal

abbrev pub invariant-loop-object : goal.invariant-loop-object
invariant-loop-object l = record {
  shapes : l.store.shapes ≡ shapes_of l.signature l.entries;
  cells : l.store.cells ≡ with_colours (zero_store l.signature l.entries).cells (take l.object l.colours);
  store : IsStore l.store;
}
