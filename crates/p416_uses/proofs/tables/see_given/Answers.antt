use Rattle.p416_scopes.specs.Seen.{seen_scope}
use Rattle.p416_names.specs.Seen.{seen_sort}
use Rattle.p416_syntax.specs.Declarations.{top_names, sort_parameters}
use Rattle.p416_uses.proofs.TableUses.{given_told}
use Rattle.p416_uses.proofs.tables.see_given.Goals as goal

pub returns : goal.returns
returns c =
    given_told c.args.found.now c.see_count.new.found c.see_expression.new.found (seen_scope c.args.scope.now) (sort_parameters (seen_sort (top_names c.args.scope.now.top.now) c.args.sort)) c.args.given.now
    (c.in_ok-see_count.ensures (top_names c.args.scope.now.top.now)) c.in_ok-see_expression.ensures.found
