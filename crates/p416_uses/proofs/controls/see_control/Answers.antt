use Rattle.std.proofs.Common.{rules}
use Rattle.p416_syntax.specs.Declarations.{top_scope}
use Rattle.p416_scopes.specs.Seen.{seen_scope}
use Rattle.p416_uses.proofs.ControlUses.{control_told}
use Rattle.p416_uses.proofs.controls.see_control.Goals as goal

pub returns : goal.returns
returns c =
    control_told c.args.found.now c.see_head.new.found c.see_locals.new.found c.see_body.new.found (top_scope c.args.top.now c.args.positions.now) _ (seen_scope c.see_locals.new.scope) c.args.control.now
    c.in_ok-see_head.ensures c.in_ok-scope.ensures.scope (search rules) c.in_ok-see_locals.ensures.scope (rw c.statements.ensures at c.in_ok-see_body.ensures.found)
