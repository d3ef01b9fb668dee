use Rattle.std.proofs.Common.{◌≡◌, map, drop}
use Rattle.p416_syntax.specs.Declarations.{layouts_of}
use Rattle.p416_names.specs.SeenKinds.{seen_kind}
use Rattle.v1_core.specs.Layouts.{no_parts}
use Rattle.v1_core.specs.Programs.{with_values}
use Rattle.v1_layout.proofs.program.layout_of_kinds.Given as goal

abbrev pub invariant-loop-kind : goal.invariant-loop-kind
invariant-loop-kind l = with_values (layouts_of l.top) (map seen_kind (drop l.kind-index l.kinds)) l.layout ≡ with_values (layouts_of l.top) (map seen_kind l.kinds) no_parts
