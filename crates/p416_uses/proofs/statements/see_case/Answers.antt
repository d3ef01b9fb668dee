use Rattle.p416_syntax.specs.Statements.{declared_in, label_uses}
use Rattle.p416_syntax.specs.Uses.{names_of_scope}
use Rattle.p416_scopes.specs.Seen.{seen_scope}
use Rattle.p416_uses.proofs.Turns.{then_one}
use Rattle.p416_uses.proofs.statements.see_case.Goals as goal

pub returns : goal.returns
returns c =
    then_one c.args.found.now c.see_label.new.found c.see_scope.new.found (label_uses (seen_scope c.args.scope.now) c.args.label.now) (names_of_scope (declared_in c.args.body.now))
    c.see_label.ensures c.in_ok-see_scope.ensures
