use Rattle.std.proofs.Common.{◌≡◌, ◌≤◌, ◌++◌, map, drop}
use Rattle.std.specs.Prelude.{All}
use Rattle.p416_names.specs.SeenKinds.{seen_kind}
use Rattle.v1_layout.specs.Left.{kind_width}
use Rattle.v1_layout.proofs.fields.widths_of.Given as goal

abbrev pub invariant-loop-kind : goal.invariant-loop-kind
invariant-loop-kind l = record {
  are : l.widths.items ++ map (λ k. kind_width (seen_kind k)) (drop l.kind-index l.kinds) ≡ map (λ k. kind_width (seen_kind k)) l.kinds;
  fit : All (λ width. width ≤ 128) l.widths.items;
}
