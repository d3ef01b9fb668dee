use Rattle.std.specs.Prelude.{map, option_to_list}
use Rattle.p416_names.specs.SeenKinds.{seen_kind}
use Rattle.p416_scopes.specs.Seen.{seen_scope}
use Rattle.p416_expression_uses.specs.Seen.{seen_type_place}
use Rattle.p416_expression_uses.proofs.Finding.{type_seen}
use Rattle.p416_expression_uses.proofs.types.see_named.Goals as goal

pub returns : goal.returns
returns c =
    type_seen c.args.found.now c.note.new.self c.push_held.new.self (seen_scope c.args.scope.now) (seen_type_place c.args.place) c.args.of.now
    c.broken_place.result (map seen_kind (option_to_list c.held_kind.result)) c.note.ensures c.broken_place.ensures c.in_ok-push_held.ensures c.held_kind.ensures
