use Rattle.std.proofs.Common.{◌≡◌, ◌++◌, length, refl, sym, ap, ◌∙◌}
use Rattle.node_lists.proofs.Growth as growth
use Rattle.name_numbers.specs.Names.{find_name}
use Rattle.p416_syntax.specs.Heads.{of_exp_head}
use Rattle.p416_names.specs.SeenKinds.{seen_kind}
use Rattle.p416_scopes.specs.Seen.{seen_scope}
use Rattle.p416_typing.specs.Rows.{RowOf, row_of}
use Rattle.v1_ready_program.specs.Seen.{seen_seats}
use Rattle.v1_ready_program.specs.internal.Ways.{way_at, way_of}
use Rattle.v1_ready_program.specs.internal.Coded.{seen_ways, seen_ask, seen_asks}
use Rattle.v1_ready_program.specs.internal.Passes.{front, way_on, way_in}
use Rattle.v1_ready_program.proofs.Asking.{ask_kept, ask_wider, asks_kept, asks_wider, way_put}
use Rattle.v1_ready_operands.specs.internal.SourcePasses.{found_of, parts_by, source_parts}
use Rattle.v1_ready_operands.proofs.found.next_found.Goals as goal

pub found_of-requires-clause-ask : goal.found_of-requires-clause-ask
found_of-requires-clause-ask c = (c.take_ask-ask.ensures.within (length (seen_ways c.args.ways.now)) c.requires.asks).0

pub put-requires-clause-step : goal.put-requires-clause-step
put-requires-clause-step c =
    let count = length (seen_ways c.args.ways.now) in
    c.step_on.ensures.order count (c.way_in.ensures.within count c.requires.ways.ends.two (c.take_ask-ask.ensures.within count c.requires.asks).0)

pub returns-clause-found : goal.returns-clause-found
returns-clause-found c =
    let s = seen_scope c.args.around.scope.now in
    let seats = seen_seats c.args.around.seats.now in
    let old = seen_ways c.args.ways.now in
    c.in_ok-found.ensures.found
    ∙ (ap (λ q. found_of s seats (find_name c.args.tables.now) q (of_exp_head c.head.result)) (c.take_ask-ask.ensures.front old)
    ∙ ap (found_of s seats (find_name c.args.tables.now) (front (seen_asks old c.args.asks.now))) (sym c.head.ensures))

pub returns-clause-asks : goal.returns-clause-asks
returns-clause-asks c =
    let s = seen_scope c.args.around.scope.now in
    let old = seen_ways c.args.ways.now in
    let new = seen_ways c.put.new.self in
    let ask = c.take_ask-ask.result in
    let mid = c.take_ask-ask.new.asks in
    let adds = c.in_ok-further.ensures.ok in
    let within = c.take_ask-ask.ensures.within (length old) c.requires.asks in
    let w = way_of old c.step_on.result in
    let here = c.in_ok-further.further in
    let view = c.args.view.now in
    let q = front (seen_asks old c.args.asks.now) in
    let ask_is : seen_ask new ask ≡ q = ask_kept old new here w adds ask within.0 ∙ c.take_ask-ask.ensures.front old in
    let further_is : way_at new here ≡ way_on (row_of s view).left view (way_in q) =
    way_put old new here w adds (seen_kind c.args.row.left) (of_exp_head c.head-2.result) ask c.step_on.result c.way_in.result within.0 refl (c.step_on.ensures.way old) (c.way_in.ensures.way old c.requires.ways.ends)
    ∙ (ap (λ e. way_on (seen_kind c.args.row.left) e (way_in (seen_ask new ask))) (sym c.head-2.ensures)
    ∙ (ap (λ (r : RowOf). way_on r.left view (way_in (seen_ask new ask))) c.requires.row
    ∙ ap (λ a. way_on (row_of s view).left view (way_in a)) ask_is)) in
    c.in_ok-push_parts.ensures.parts new
    ∙ (ap (λ x. parts_by (seen_ask new ask) x (of_exp_head c.head-3.result) ++ seen_asks new mid) further_is
    ∙ (ap (λ a. parts_by a (way_on (row_of s view).left view (way_in q)) (of_exp_head c.head-3.result) ++ seen_asks new mid) ask_is
    ∙ (ap (λ e. parts_by q (way_on (row_of s view).left view (way_in q)) e ++ seen_asks new mid) (sym c.head-3.ensures)
    ∙ ap (λ more. source_parts (row_of s view) q view ++ more) (asks_kept old new here w adds mid within.1 ∙ c.take_ask-ask.ensures.behind old))))

pub returns-clause-ways : goal.returns-clause-ways
returns-clause-ways c = c.in_ok-further.ensures.ways

pub returns-clause-asked : goal.returns-clause-asked
returns-clause-asked c =
    let old = seen_ways c.args.ways.now in
    let new = seen_ways c.put.new.self in
    let here = c.in_ok-further.further in
    let w = way_of old c.step_on.result in
    let adds = c.in_ok-further.ensures.ok in
    let within = c.take_ask-ask.ensures.within (length old) c.requires.asks in
    c.in_ok-push_parts.ensures.within (length new) (ask_wider old new here w adds c.take_ask-ask.result within.0) (growth.adds_place old new here w adds) (asks_wider old new here w adds c.take_ask-ask.new.asks within.1)
