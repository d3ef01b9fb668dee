use Rattle.std.proofs.Common.{◌∷◌, length, sym, ap, subst, ◌∙◌}
use Rattle.v1_ready_nodes.specs.Held.{trees_in}
use Rattle.v1_ready_statements.specs.Tested.{with_chosen}
use Rattle.v1_ready_tests.specs.internal.Coded.{seen_test}
use Rattle.v1_ready_operands.specs.internal.Coded.{seen_source, seen_sources, AreSourcesIn}
use Rattle.v1_ready_operands.specs.internal.SourcePasses.{first_source, rest_sources}
use Rattle.v1_ready_operands.proofs.KeepingSources.{sources_kept, sources_wider}
use Rattle.v1_ready_operands.proofs.sources.join_two.Goals as goal

pub returns-clause-sources : goal.returns-clause-sources
returns-clause-sources c =
    let old = c.args.nodes.now in
    let new = c.put_chosen.new.nodes in
    let ts = trees_in old in
    let xs = seen_sources old c.args.sources.now in
    let t = seen_test old c.args.condition in
    let first = c.take_source-positive.ensures.within (length ts) c.requires.sources in
    let second = c.take_source-negative.ensures.within (length ts) first.1 in
    let left = c.take_source-negative.new.sources in
    ap (seen_sources new) c.in_ok-push.ensures
    ∙ (ap (λ v. v ∷ seen_sources new left)
    (c.in_ok-place.ensures.source
    ∙ (ap (λ x. with_chosen t x (seen_source old c.take_source-negative.result)) (c.take_source-positive.ensures.source ts)
    ∙ ap (with_chosen t (first_source xs)) (c.take_source-negative.ensures.source ts ∙ ap first_source (c.take_source-positive.ensures.rest ts))))
    ∙ ap (λ vs. with_chosen t (first_source xs) (first_source (rest_sources xs)) ∷ vs)
    (sources_kept old new c.in_ok-place.ensures.grows left second.1
    ∙ (c.take_source-negative.ensures.rest ts ∙ ap rest_sources (c.take_source-positive.ensures.rest ts))))

pub returns-clause-within : goal.returns-clause-within
returns-clause-within c =
    let old = c.args.nodes.now in
    let new = c.put_chosen.new.nodes in
    let first = c.take_source-positive.ensures.within (length (trees_in old)) c.requires.sources in
    let second = c.take_source-negative.ensures.within (length (trees_in old)) first.1 in
    subst (AreSourcesIn new) (sym c.in_ok-push.ensures) (c.in_ok-place.ensures.within, sources_wider old new c.in_ok-place.ensures.grows c.take_source-negative.new.sources second.1)
