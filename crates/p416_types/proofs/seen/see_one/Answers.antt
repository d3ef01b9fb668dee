use Rattle.std.proofs.Common.{ℕ, List, ap, ◌∙◌}
use Rattle.p416_syntax.specs.Names.{Name}
use Rattle.p416_syntax.specs.Main.{positions_from}
use Rattle.p416_types.proofs.Leaving.{found_one, outside_one}
use Rattle.p416_types.proofs.seen.see_one.Goals as goal

pub returns-clause-found : goal.returns-clause-found
returns-clause-found c =
    found_one c.args.top.now c.args.places.now c.args.decl.now c.of_name-positions.result.now c.args.found.now _ (c.of_name-positions.ensures ∙ ap (λ (text : Name). positions_from 0 c.args.places.now text) (c.as_slice.ensures ∙ c.decl_name.ensures)) c.in_ok-see_declaration.ensures

pub returns-clause-outside : goal.returns-clause-outside
returns-clause-outside c =
    outside_one c.args.top.now c.args.places.now c.args.decl.now c.of_name-positions.result.now c.args.found.now _ _ c.counted_so_far-before.result c.in_ok-outside.outside
    (c.of_name-positions.ensures ∙ ap (λ (text : Name). positions_from 0 c.args.places.now text) (c.as_slice.ensures ∙ c.decl_name.ensures)) c.counted_so_far-before.ensures c.in_ok-see_declaration.ensures c.counted_behind.ensures c.in_ok-outside.ensures
