use Rattle.std.proofs.Common.{sym, ◌∙◌}
use Rattle.v1_ready_locals.proofs.Owning.{variable_on, variables_through}
use Rattle.v1_ready_locals.proofs.own.numbered_variables.Goals as goal

pub loop-var-preserved : goal.loop-var-preserved
loop-var-preserved c =
    variable_on c.args.numbers.now c.loop-var.next c.in-Some.number (sym c.number_at.ensures ∙ c.in-Some.is) c.args.vars.now c.loop-var.var-index c.var-item.result c.loop-var-test.true c.var-item.is c.loop-var.found.items c.push.new.self.items _
    c.in_ok-push.ensures.items c.loop-var.invariant

pub returns : goal.returns
returns c = variables_through c.args.numbers.now c.loop-var.next c.args.vars.now c.loop-var.var-index c.loop-var-test.false _ _ c.loop-var.invariant
