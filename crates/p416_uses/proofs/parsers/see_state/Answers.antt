use Rattle.p416_scopes.specs.Seen.{seen_scope}
use Rattle.p416_uses.proofs.ParserUses.{state_told}
use Rattle.p416_uses.proofs.parsers.see_state.Goals as goal

pub returns-clause-found : goal.returns-clause-found
returns-clause-found c =
    state_told c.args.found.now c.see_body.new.found c.see_end.new.found (seen_scope c.args.scope.now) (seen_scope c.see_body.new.scope) c.args.state.now
    (rw c.statements.ensures at c.in_ok-see_body.ensures.found) c.in_ok-see_body.ensures.scope c.in_ok-see_end.ensures.found
