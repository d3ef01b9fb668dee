use Rattle.std.proofs.Common.{◌≡◌, ℕ, ◌<◌, [], None, Some, slice_get}
use Rattle.digraph.specs.declared.search.Mark.TheVariants.{New}
use Rattle.digraph.specs.internal.Search.{Searching, IsListed}
use Rattle.digraph.proofs.condensation.Components.of.Given as goal

abbrev pub invariant-loop-root : goal.invariant-loop-root
invariant-loop-root l = record {
  searching : Searching l.graph None l.search;
  listed : IsListed l.search;
  ended : l.search.path ≡ [];
  reached : (a : ℕ) → a < l.root → slice_get l.search.marks a ≡ Some New → ⊥;
}
