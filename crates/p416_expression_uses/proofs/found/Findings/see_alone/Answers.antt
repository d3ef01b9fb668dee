use Rattle.std.specs.Prelude.{map, option_to_list}
use Rattle.std.specs.Option.{option_map}
use Rattle.p416_names.specs.SeenKinds.{referred}
use Rattle.p416_calls.specs.Seen.{seen_place}
use Rattle.p416_scopes.specs.Seen.{seen_scope}
use Rattle.p416_expression_uses.specs.Seen.{seen_counted}
use Rattle.p416_expression_uses.proofs.Finding.{expression_seen}
use Rattle.p416_expression_uses.proofs.found.Findings.see_alone.Goals as goal

pub returns : goal.returns
returns c =
    expression_seen c.args.self.now c.note.new.self c.push_called.new.self c.push_counted.new.self (seen_scope c.args.scope.now) (seen_place c.args.place) c.args.view.now
    c.broken_rule.result (option_map referred c.called_at.result) (map seen_counted (option_to_list c.counted_at.result))
    c.note.ensures c.broken_rule.ensures c.in_ok-push_called.ensures c.called_at.ensures c.in_ok-push_counted.ensures c.counted_at.ensures
