use Rattle.std.proofs.Common.{◌≡◌, ◌++◌, drop}
use Rattle.p416_syntax.specs.Main.{positions_from}
use Rattle.v1_layout.proofs.variables.places_of.Given as goal

abbrev pub invariant-loop-block : goal.invariant-loop-block
invariant-loop-block l = record {
  found : l.places.items ++ positions_from l.place (drop l.block-index l.main) l.name ≡ positions_from 0 l.main l.name;
  at : l.place ≡ l.block-index;
}
