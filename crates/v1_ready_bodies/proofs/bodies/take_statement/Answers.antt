use Rattle.std.proofs.Common.{sym, ap, ◌∙◌, ◌<◌, ◌+◌, arith, subst}
use Rattle.p416_visits.specs.Left.{height}
use Rattle.p416_visits.proofs.Visiting.{scope_height}
use Rattle.v1_ready_bodies.specs.internal.Steps.{state_of, steps, steps_of}
use Rattle.v1_ready_bodies.proofs.Steps.{some_steps, single_done}
use Rattle.v1_ready_bodies.proofs.bodies.take_statement.Goals as goal

pub returns-then-made_of-clause-finish : goal.returns-then-made_of-clause-finish
returns-then-made_of-clause-finish g c =
    let s = c.args.standing.now.scope in
    c.in_ok-made_of.ensures.parts c.if-made_of.true (g.S.Singles.block c.args.singles.now) s.top.now (state_of c.args.nodes.now c.args.standing.now c.args.made.now)
    (record { named = scope_height s s.same ∙ ap (height s.top.now) (sym c.len-names.ensures); seated = sym c.len-seats.ensures })

pub returns-clause-finish : goal.returns-clause-finish
returns-clause-finish g c =
    single_done (g.S.Singles.block c.args.singles.now) c.args.of.now c.args.standing.now.scope c.make_single.new.standing.scope c.args.left.now c.put_parts.new.left (state_of c.args.nodes.now c.args.standing.now c.args.made.now) (state_of c.make_single.new.nodes c.make_single.new.standing c.make_single.new.made)
    (c.in_ok-made_of.ensures.same c.if-made_of.false) c.in_ok-make_single.ensures.stays.top (c.in_ok-make_single.ensures.state c.args.standing.now.scope.top.now)

pub returns-clause-fewer : goal.returns-clause-fewer
returns-clause-fewer g c =
    subst (λ left. steps left < steps_of c.args.of.now + steps c.args.left.now) (sym (c.in_ok-made_of.ensures.same c.if-made_of.false)) (omega (arith, some_steps c.args.of.now))
