use Rattle.std.proofs.Common.{◌∷◌, length, sym, ap, subst, ◌∙◌}
use Rattle.name_numbers.specs.Names.{find_name}
use Rattle.v1_ready_nodes.specs.Held.{ready_in, trees_in}
use Rattle.v1_ready_tests.specs.internal.Coded.{seen_marked, seen_all, AreMadeIn}
use Rattle.v1_ready_tests.specs.internal.Passes.{parts_made, behind_made, made_of}
use Rattle.v1_ready_tests.proofs.Keeping.{all_kept, all_wider}
use Rattle.v1_ready_tests.proofs.tests.build_one.Goals as goal

pub made_of-requires-clause-parts : goal.made_of-requires-clause-parts
made_of-requires-clause-parts c = (c.take_parts-parts.ensures.within (length (ready_in c.args.nodes.now)) (length (trees_in c.args.nodes.now)) c.requires.made).0

pub returns-clause-made : goal.returns-clause-made
returns-clause-made c =
    let old = c.args.nodes.now in
    let new = c.made_of.new.nodes in
    let p = seen_marked c.args.marked in
    let tables = find_name c.args.tables.now in
    let mid = c.take_parts-parts.new.made in
    let before = seen_all old c.args.made.now in
    let within = (c.take_parts-parts.ensures.within (length (ready_in old)) (length (trees_in old)) c.requires.made).1 in
    ap (seen_all new) c.in_ok-push.ensures
    ∙ (ap (λ v. v ∷ seen_all new mid)
    (c.in_ok-one.ensures.made
    ∙ ap (made_of tables p c.args.view.now) (c.take_parts-parts.ensures.parts (ready_in old) (trees_in old) ∙ ap (λ e. parts_made e before) (sym c.head.ensures)))
    ∙ ap (λ vs. made_of tables p c.args.view.now (parts_made c.args.view.now before) ∷ vs)
    (all_kept old new c.in_ok-one.ensures.grows mid within
    ∙ (c.take_parts-parts.ensures.rest (ready_in old) (trees_in old) ∙ ap (λ e. behind_made e before) (sym c.head.ensures))))

pub returns-clause-within : goal.returns-clause-within
returns-clause-within c =
    let old = c.args.nodes.now in
    let new = c.made_of.new.nodes in
    let within = (c.take_parts-parts.ensures.within (length (ready_in old)) (length (trees_in old)) c.requires.made).1 in
    subst (AreMadeIn new) (sym c.in_ok-push.ensures)
    (c.in_ok-one.ensures.within, all_wider old new c.in_ok-one.ensures.grows c.take_parts-parts.new.made within)

pub returns-clause-grows : goal.returns-clause-grows
returns-clause-grows c = c.in_ok-one.ensures.grows
