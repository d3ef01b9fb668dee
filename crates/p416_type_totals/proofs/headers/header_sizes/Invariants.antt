use Rattle.std.proofs.Common.{◌≡◌, ◌++◌, map, drop}
use Rattle.p416_type_totals.specs.internal.Sized.{header_total}
use Rattle.p416_type_totals.proofs.headers.header_sizes.Given as goal

abbrev pub invariant-loop-decl : goal.invariant-loop-decl
invariant-loop-decl l = l.sizes.items ++ map (header_total l.measure l.types) (drop l.decl-index l.types) ≡ map (header_total l.measure l.types) l.types
