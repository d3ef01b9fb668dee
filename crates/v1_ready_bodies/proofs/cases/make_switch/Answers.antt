use Rattle.std.proofs.Common.{◌∷◌, refl, sym, ap, ◌∙◌}
use Rattle.std.proofs.lemmas.Result.{on_ok_weaker}
use Rattle.v1_ready_statements.specs.Around.{table_found}
use Rattle.v1_ready_statements.specs.Statements.{switch_ready}
use Rattle.v1_ready_bodies.specs.Seen.{seen_statement}
use Rattle.v1_ready_bodies.specs.internal.Steps.{seen_all, cases_joined, first_made, switch_made}
use Rattle.v1_ready_bodies.proofs.Keeping.{put_seen, put_within}
use Rattle.v1_ready_bodies.proofs.cases.make_switch.Goals as goal

pub join_cases-requires : goal.join_cases-requires
join_cases-requires g c = λ k. ((refl, tt), (c.requires.held, (c.take_made-default.ensures.others c.args.nodes.now c.requires.made, c.take_made-default.ensures.within c.args.nodes.now c.requires.made)))

pub returns-clause-made : goal.returns-clause-made
returns-clause-made g c =
    let b = g.S.Singles.block c.args.singles.now in
    let old = c.args.nodes.now in
    let mid = c.join_cases.new.nodes in
    let made = c.join_cases.new.made in
    let r = seen_statement mid c.in_ok-joined.joined in
    let m = seen_all old c.args.made.now in
    on_ok_weaker c.push.result
    (λ so. put_seen mid c.put_switch.new.nodes c.in_ok-switch.ensures.grows c.in_ok-switch.switch made c.push.new.self (switch_ready (table_found b c.args.table.now) r) c.in_ok-joined.ensures.within
    (c.in_ok-switch.ensures.statement ∙ ap (λ t. switch_ready t r) (c.table.ensures ∙ ap (table_found b) c.as_slice.ensures)) so
    ∙ (ap (switch_made (table_found b c.args.table.now)) (sym c.in_ok-joined.ensures.joined)
    ∙ (ap (λ d. switch_made (table_found b c.args.table.now) (cases_joined b d c.args.cases.now (seen_all old c.take_made-default.new.made))) (c.take_made-default.ensures.first old)
    ∙ ap (λ ms. switch_made (table_found b c.args.table.now) (cases_joined b (first_made m) c.args.cases.now ms)) (c.take_made-default.ensures.rest old))))
    c.push.ensures

pub returns-clause-within : goal.returns-clause-within
returns-clause-within g c =
    on_ok_weaker c.push.result
    (λ so. put_within c.join_cases.new.nodes c.put_switch.new.nodes c.in_ok-switch.ensures.grows c.in_ok-switch.switch c.join_cases.new.made c.push.new.self c.in_ok-joined.ensures.within c.in_ok-switch.ensures.within so)
    c.push.ensures
