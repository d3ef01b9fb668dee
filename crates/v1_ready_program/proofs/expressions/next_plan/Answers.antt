use Rattle.std.proofs.Common.{◌++◌, length, refl, sym, ap, ◌∙◌}
use Rattle.node_lists.proofs.Growth as growth
use Rattle.p416_syntax.specs.Heads.{of_exp_head}
use Rattle.p416_syntax.specs.Declarations.{top_names}
use Rattle.p416_names.specs.SeenKinds.{seen_kind}
use Rattle.p416_scopes.specs.Seen.{seen_scope}
use Rattle.p416_typing.specs.Rows.{row_of}
use Rattle.v1_ready_program.specs.Seen.{seen_seats}
use Rattle.v1_ready_program.specs.internal.Ways.{way_of}
use Rattle.v1_ready_program.specs.internal.Coded.{seen_ways, seen_ask, seen_asks}
use Rattle.v1_ready_program.specs.internal.Passes.{front, way_on, way_in, planned, parts_asked}
use Rattle.v1_ready_program.proofs.Asking.{ask_kept, ask_wider, asks_kept, asks_wider, way_put}
use Rattle.v1_ready_program.proofs.expressions.next_plan.Goals as goal

pub plan_of-requires-clause-ask : goal.plan_of-requires-clause-ask
plan_of-requires-clause-ask c = (c.take_ask-ask.ensures.within (length (seen_ways c.args.ways.now)) c.requires.asks).0

pub put-requires-clause-step : goal.put-requires-clause-step
put-requires-clause-step c =
    let count = length (seen_ways c.args.ways.now) in
    c.step_on.ensures.order count (c.way_in.ensures.within count c.requires.ways.ends.two (c.take_ask-ask.ensures.within count c.requires.asks).0)

pub push_parts-requires-clause-ask : goal.push_parts-requires-clause-ask
push_parts-requires-clause-ask c =
    let old = seen_ways c.args.ways.now in
    ask_wider old (seen_ways c.put.new.self) c.in_ok-further.further (way_of old c.step_on.result) c.in_ok-further.ensures.ok c.take_ask-ask.result (c.take_ask-ask.ensures.within (length old) c.requires.asks).0

pub push_parts-requires-clause-within : goal.push_parts-requires-clause-within
push_parts-requires-clause-within c =
    let old = seen_ways c.args.ways.now in
    growth.adds_place old (seen_ways c.put.new.self) c.in_ok-further.further (way_of old c.step_on.result) c.in_ok-further.ensures.ok

pub push_parts-requires-clause-further : goal.push_parts-requires-clause-further
push_parts-requires-clause-further c =
    let old = seen_ways c.args.ways.now in
    let new = seen_ways c.put.new.self in
    let ask = c.take_ask-ask.result in
    way_put old new c.in_ok-further.further (way_of old c.step_on.result) c.in_ok-further.ensures.ok (seen_kind c.args.row.left) (of_exp_head c.head-2.result) ask c.step_on.result c.way_in.result
    (c.take_ask-ask.ensures.within (length old) c.requires.asks).0 refl (c.step_on.ensures.way old) (c.way_in.ensures.way old c.requires.ways.ends)
    ∙ ap (λ e. way_on (seen_kind c.args.row.left) e (way_in (seen_ask new ask))) (sym c.head-2.ensures ∙ c.head-3.ensures)

pub push_parts-requires-clause-asks : goal.push_parts-requires-clause-asks
push_parts-requires-clause-asks c =
    let old = seen_ways c.args.ways.now in
    asks_wider old (seen_ways c.put.new.self) c.in_ok-further.further (way_of old c.step_on.result) c.in_ok-further.ensures.ok c.take_ask-ask.new.asks (c.take_ask-ask.ensures.within (length old) c.requires.asks).1

pub returns-clause-plan : goal.returns-clause-plan
returns-clause-plan c =
    let s = seen_scope c.args.around.scope.now in
    let seats = seen_seats c.args.around.seats.now in
    let old = seen_ways c.args.ways.now in
    c.in_ok-plan.ensures
    ∙ (ap (λ r. planned s seats r (seen_ask old c.take_ask-ask.result) (of_exp_head c.head.result)) c.requires.row
    ∙ (ap (λ q. planned s seats (row_of s c.args.view.now) q (of_exp_head c.head.result)) (c.take_ask-ask.ensures.front old)
    ∙ ap (planned s seats (row_of s c.args.view.now) (front (seen_asks old c.args.asks.now))) (sym c.head.ensures)))

pub returns-clause-asks : goal.returns-clause-asks
returns-clause-asks c =
    let s = seen_scope c.args.around.scope.now in
    let top = top_names c.args.around.scope.now.top.now in
    let old = seen_ways c.args.ways.now in
    let new = seen_ways c.put.new.self in
    let ask = c.take_ask-ask.result in
    let mid = c.take_ask-ask.new.asks in
    let adds = c.in_ok-further.ensures.ok in
    let within = c.take_ask-ask.ensures.within (length old) c.requires.asks in
    let w = way_of old c.step_on.result in
    let here = c.in_ok-further.further in
    c.in_ok-push_parts.ensures.parts top
    ∙ (ap (λ r. parts_asked r (seen_ask new ask) (of_exp_head c.head-3.result) ++ seen_asks new mid) c.requires.row
    ∙ (ap (λ q. parts_asked (row_of s c.args.view.now) q (of_exp_head c.head-3.result) ++ seen_asks new mid) (ask_kept old new here w adds ask within.0 ∙ c.take_ask-ask.ensures.front old)
    ∙ (ap (λ e. parts_asked (row_of s c.args.view.now) (front (seen_asks old c.args.asks.now)) e ++ seen_asks new mid) (sym c.head-3.ensures)
    ∙ ap (λ more. parts_asked (row_of s c.args.view.now) (front (seen_asks old c.args.asks.now)) c.args.view.now ++ more) (asks_kept old new here w adds mid within.1 ∙ c.take_ask-ask.ensures.behind old))))

pub returns-clause-ways : goal.returns-clause-ways
returns-clause-ways c = c.in_ok-further.ensures.ways

pub returns-clause-within : goal.returns-clause-within
returns-clause-within c = c.in_ok-push_parts.ensures.within
