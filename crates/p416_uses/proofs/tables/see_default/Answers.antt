use Rattle.std.proofs.Common.{[], option_copied}
use Rattle.std.specs.Option.{option_map_or}
use Rattle.p416_syntax.specs.Declarations.{action_name_uses, given_uses, parameters_of}
use Rattle.p416_scopes.specs.Seen.{seen_scope}
use Rattle.p416_expression_uses.proofs.Finding.{after_then}
use Rattle.p416_uses.proofs.tables.see_default.Goals as goal

pub returns : goal.returns
returns c =
    after_then c.args.found.now c.see_action_name.new.found c.see_arguments.new.found (action_name_uses (seen_scope c.args.scope.now) c.args.action.now)
    (option_map_or (given_uses (seen_scope c.args.scope.now) (parameters_of (seen_scope c.args.scope.now) c.args.action.now)) (option_copied c.args.given) [])
    c.see_action_name.ensures c.in_ok-see_arguments.ensures
