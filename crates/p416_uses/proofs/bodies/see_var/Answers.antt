use Rattle.std.proofs.Common.{[]}
use Rattle.std.specs.Option.{option_map_or}
use Rattle.p416_syntax.specs.Scopes.{kind_of_type}
use Rattle.p416_syntax.specs.Calls.{value}
use Rattle.p416_syntax.specs.Uses.{of_variable, type_uses, uses}
use Rattle.p416_scopes.specs.Seen.{seen_scope}
use Rattle.p416_expression_uses.proofs.Finding.{after_then}
use Rattle.p416_uses.proofs.bodies.see_var.Goals as goal

pub returns : goal.returns
returns c =
    after_then c.args.found.now c.see_type.new.found c.see_value.new.found (type_uses (seen_scope c.args.scope.now) of_variable c.args.var.now.of)
    (option_map_or (uses (seen_scope c.args.scope.now) (value (kind_of_type (seen_scope c.args.scope.now).names c.args.var.now.of))) c.args.var.now.initial [])
    c.in_ok-see_type.ensures c.in_ok-see_value.ensures
