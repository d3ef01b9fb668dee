use Rattle.std.proofs.Common.{◌≡◌, ◌++◌, map, drop}
use Rattle.std.specs.Prelude.{flat_map}
use Rattle.p416_names.specs.SeenKinds.{seen_kind}
use Rattle.v1_core.specs.Slots.{kinds_of}
use Rattle.v1_layout.proofs.kinds.add_all.Given as goal

abbrev pub invariant-loop-next : goal.invariant-loop-next
invariant-loop-next l = map seen_kind l.kinds.items ++ flat_map (kinds_of l.syntax) (drop l.next-index l.declared) ≡ map seen_kind l.fn.kinds.items ++ flat_map (kinds_of l.syntax) l.declared
