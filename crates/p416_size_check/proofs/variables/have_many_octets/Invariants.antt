use Rattle.std.proofs.Common.{◌≡◌, ◌≤◌, map, drop, sum_by}
use Rattle.std.specs.Prelude.{nat_lt}
use Rattle.p416_syntax.specs.Declarations.{layouts_of}
use Rattle.p416_syntax.specs.Totals.{octets_of_kind}
use Rattle.p416_names.specs.SeenKinds.{seen_kind}
use Rattle.p416_size_check.proofs.variables.have_many_octets.Given as goal

abbrev pub invariant-loop-kind : goal.invariant-loop-kind
invariant-loop-kind l = record {
  small : l.left ≤ 131072;
  enough : nat_lt l.left (sum_by (octets_of_kind (layouts_of l.totals)) (map seen_kind (drop l.kind-index l.kinds))) ≡ nat_lt 131072 (sum_by (octets_of_kind (layouts_of l.totals)) (map seen_kind l.kinds));
}
