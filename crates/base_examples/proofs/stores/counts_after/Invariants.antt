use Rattle.std.proofs.Common.{◌≡◌, [], ◌∷◌}
use Rattle.state_store.specs.declared.shapes.Kind.TheVariants.{Both}
use Rattle.state_store.specs.declared.shapes.Shape.TheVariants.{Counter}
use Rattle.base_examples.proofs.stores.counts_after.Given as goal

abbrev pub invariant-loop : goal.invariant-loop
invariant-loop l = l.store.shapes ≡ Counter Both 1 ∷ []
