use Rattle.std.proofs.Common.{◌≡◌, take}
use Rattle.state_store.specs.State.{cells_at, with_cells, IsStore}
use Rattle.match_core.specs.Stores.{handed}
use Rattle.match_core.proofs.stores.give_all.Given as goal

abbrev pub invariant-loop-colour : goal.invariant-loop-colour
invariant-loop-colour l = record {
  given : l.store ≡ with_cells l.initial.store l.object (handed (cells_at l.initial.store l.object) (take l.colour-index l.colours));
  store : IsStore l.store;
}
