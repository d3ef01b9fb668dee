use Rattle.std.proofs.Common.{◌≡◌, ◌++◌, map, drop}
use Rattle.p416_names.specs.SeenKinds.{seen_kind}
use Rattle.v1_ready_selects.specs.Rows.{tests_of_parts}
use Rattle.v1_ready_selects.specs.internal.Places.{tests_from}
use Rattle.v1_ready_selects.proofs.cases.tests_of_parts.Given as goal

abbrev pub invariant-loop-part : goal.invariant-loop-part
invariant-loop-part l = record {
  made : l.tests ++ tests_from (map seen_kind l.keys) l.place (drop l.part-index l.parts) ≡ tests_of_parts (map seen_kind l.keys) l.parts;
  counted : l.place ≡ l.part-index;
}
