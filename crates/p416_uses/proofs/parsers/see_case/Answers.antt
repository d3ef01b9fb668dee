use Rattle.std.proofs.Common.{◌∷◌, map, flat_map}
use Rattle.p416_syntax.specs.Uses.{a_keyset}
use Rattle.p416_syntax.specs.Declarations.{compared_uses, keyset_parts, with_keys, target_uses}
use Rattle.p416_names.specs.SeenKinds.{seen_kind}
use Rattle.p416_scopes.specs.Seen.{seen_scope}
use Rattle.p416_expression_uses.proofs.Finding.{after_then, one_then}
use Rattle.p416_uses.proofs.parsers.see_case.Goals as goal

pub returns : goal.returns
returns c =
    after_then c.args.found.now c.see_keyset.new.found c.see_target.new.found
    (a_keyset (map seen_kind c.args.keys.now) c.args.case.now.keyset ∷ flat_map (compared_uses (seen_scope c.args.scope.now)) (with_keys (map seen_kind c.args.keys.now) (keyset_parts c.args.case.now.keyset)))
    (target_uses (seen_scope c.args.scope.now) c.args.case.now.target)
    (one_then c.args.found.now c.see_fit.new.found c.see_keyset.new.found (a_keyset (map seen_kind c.args.keys.now) c.args.case.now.keyset)
    (flat_map (compared_uses (seen_scope c.args.scope.now)) (with_keys (map seen_kind c.args.keys.now) (keyset_parts c.args.case.now.keyset))) c.see_fit.ensures c.in_ok-see_keyset.ensures)
    c.see_target.ensures
