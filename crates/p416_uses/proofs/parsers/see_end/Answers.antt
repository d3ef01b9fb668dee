use Rattle.std.proofs.Common.{ap}
use Rattle.p416_scopes.specs.Seen.{seen_scope}
use Rattle.p416_uses.proofs.BodyUses.{end_told, left_behind}
use Rattle.p416_uses.proofs.parsers.see_end.Goals as goal

pub returns-clause-found : goal.returns-clause-found
returns-clause-found c =
    end_told c.args.found.now c.see_transition.new.found (seen_scope c.args.scope.now) (seen_scope c.declare_body.new.scope) c.args.state.now.body c.args.state.now.transition
    (rw c.statements.ensures at c.in_ok-declare_body.ensures.scope) c.in_ok-see_transition.ensures

pub returns-clause-scope : goal.returns-clause-scope
returns-clause-scope c =
    left_behind c.args.scope.now c.declare_body.new.scope.top.now c.args.state.now.body c.len-len.result (seen_scope c.declare_body.new.scope) (seen_scope c.shorten.new.scope)
    c.args.scope.now.same (ap (λ t. t.now) c.declare_body.ensures.top) c.len-len.ensures (rw c.statements.ensures at c.in_ok-declare_body.ensures.scope) c.in_ok-shorten.ensures.scope
