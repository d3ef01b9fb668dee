use Rattle.std.proofs.Common.{◌≡◌, map, drop}
use Rattle.std.specs.List.{list_any}
use Rattle.p416_syntax.specs.Types.{compares_other}
use Rattle.p416_names.specs.SeenKinds.{seen_kind}
use Rattle.p416_uses.specs.Parts.{paired}
use Rattle.p416_uses.proofs.keysets.some_other.Given as goal

abbrev pub invariant-loop-part : goal.invariant-loop-part
invariant-loop-part l = record {
  found : list_any compares_other (paired (map seen_kind l.keys) l.number (drop l.part-index l.parts)) ≡ list_any compares_other (paired (map seen_kind l.keys) 0 l.parts);
  counted : l.number ≡ l.part-index;
}
