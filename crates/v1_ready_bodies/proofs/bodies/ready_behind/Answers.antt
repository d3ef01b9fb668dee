use Rattle.std.proofs.Common.{[], ◌∷◌, ap, ◌∙◌}
use Rattle.v1_ready_bodies.specs.declared.making.Work.TheVariants as work
use Rattle.v1_ready_bodies.specs.internal.Steps.{State, first_made}
use Rattle.v1_ready_bodies.proofs.Steps.{body_done}
use Rattle.v1_ready_bodies.proofs.bodies.ready_behind.Goals as goal

pub returns-clause-statement : goal.returns-clause-statement
returns-clause-statement g c =
    let x = c.args.statement.now in
    let left = c.in_ok-push.ensures ∙ (ap (λ y. work.Make y ∷ c.new-left.result) c.again.ensures ∙ ap (λ l. work.Make x ∷ l) c.new-left.ensures) in
    c.take_made.ensures.first c.take_all.new.nodes
    ∙ ap (λ (st : State). first_made st.made) (body_done (g.S.Singles.block c.args.singles.now) c.args.standing.now.scope.top.now c.args.nodes.now c.take_all.new.nodes c.args.standing.now c.take_all.new.standing x _ _ _ left c.new-made.ensures c.in_ok-take_all.ensures.finish)

pub returns-clause-scope : goal.returns-clause-scope
returns-clause-scope g c =
    let x = c.args.statement.now in
    let left = c.in_ok-push.ensures ∙ (ap (λ y. work.Make y ∷ c.new-left.result) c.again.ensures ∙ ap (λ l. work.Make x ∷ l) c.new-left.ensures) in
    ap (λ (st : State). st.scope) (body_done (g.S.Singles.block c.args.singles.now) c.args.standing.now.scope.top.now c.args.nodes.now c.take_all.new.nodes c.args.standing.now c.take_all.new.standing x _ _ _ left c.new-made.ensures c.in_ok-take_all.ensures.finish)

pub returns-clause-seats : goal.returns-clause-seats
returns-clause-seats g c =
    let x = c.args.statement.now in
    let left = c.in_ok-push.ensures ∙ (ap (λ y. work.Make y ∷ c.new-left.result) c.again.ensures ∙ ap (λ l. work.Make x ∷ l) c.new-left.ensures) in
    ap (λ (st : State). st.seats) (body_done (g.S.Singles.block c.args.singles.now) c.args.standing.now.scope.top.now c.args.nodes.now c.take_all.new.nodes c.args.standing.now c.take_all.new.standing x _ _ _ left c.new-made.ensures c.in_ok-take_all.ensures.finish)

pub returns-clause-number : goal.returns-clause-number
returns-clause-number g c =
    let x = c.args.statement.now in
    let left = c.in_ok-push.ensures ∙ (ap (λ y. work.Make y ∷ c.new-left.result) c.again.ensures ∙ ap (λ l. work.Make x ∷ l) c.new-left.ensures) in
    ap (λ (st : State). st.number) (body_done (g.S.Singles.block c.args.singles.now) c.args.standing.now.scope.top.now c.args.nodes.now c.take_all.new.nodes c.args.standing.now c.take_all.new.standing x _ _ _ left c.new-made.ensures c.in_ok-take_all.ensures.finish)
