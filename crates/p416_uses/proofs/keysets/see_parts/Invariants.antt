use Rattle.std.proofs.Common.{◌≡◌, map, flat_map, drop}
use Rattle.p416_syntax.specs.Declarations.{compared_uses}
use Rattle.p416_names.specs.SeenKinds.{seen_kind}
use Rattle.p416_scopes.specs.Seen.{seen_scope}
use Rattle.p416_expression_uses.specs.Found.{after_all}
use Rattle.p416_uses.specs.Parts.{paired}
use Rattle.p416_uses.proofs.keysets.see_parts.Given as goal

abbrev pub invariant-loop-part : goal.invariant-loop-part
invariant-loop-part l = record {
  judged : after_all l.found (flat_map (compared_uses (seen_scope l.scope)) (paired (map seen_kind l.keys) l.number (drop l.part-index l.parts))) ≡ after_all l.fn.found (flat_map (compared_uses (seen_scope l.scope)) (paired (map seen_kind l.keys) 0 l.parts));
  counted : l.number ≡ l.part-index;
}
