use Rattle.std.proofs.Common.{sym, ap, ◌∙◌}
use Rattle.p416_visits.specs.Left.{height}
use Rattle.p416_visits.proofs.Visiting.{scope_height}
use Rattle.v1_ready_bodies.specs.internal.Steps.{state_of}
use Rattle.v1_ready_bodies.proofs.bodies.take_cases.Goals as goal

pub returns-then-made_of-clause-finish : goal.returns-then-made_of-clause-finish
returns-then-made_of-clause-finish c = λ b.
    let s = c.args.standing.now.scope in
    c.in_ok-made_of.ensures.parts c.if-made_of.true b s.top.now (state_of c.args.nodes.now c.args.standing.now c.args.made.now)
    (record { named = scope_height s s.same ∙ ap (height s.top.now) (sym c.len-names.ensures); seated = sym c.len-seats.ensures })
