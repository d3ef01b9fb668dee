use Rattle.std.proofs.Common.{◌∷◌, option_map, sym, ap, subst, ◌∙◌}
use Rattle.v1_ready_blocks.specs.Tests.{parts}
use Rattle.v1_ready_operands.specs.internal.Coded.{seen_sources, AreSourcesIn}
use Rattle.v1_ready_operands.proofs.KeepingSources.{sources_kept, sources_wider}
use Rattle.v1_ready_operands.proofs.sources.join_parts.Goals as goal

pub returns-clause-sources : goal.returns-clause-sources
returns-clause-sources c =
    let old = c.args.nodes.now in
    let new = c.put_parts.new.nodes in
    let xs = c.args.sources.now in
    ap (seen_sources new) c.in_ok-push.ensures
    ∙ (ap (λ v. v ∷ seen_sources new xs) c.in_ok-place.ensures.source
    ∙ ap (λ vs. option_map parts c.args.range ∷ vs) (sources_kept old new c.in_ok-place.ensures.grows xs c.requires.sources))

pub returns-clause-within : goal.returns-clause-within
returns-clause-within c =
    let old = c.args.nodes.now in
    let new = c.put_parts.new.nodes in
    subst (AreSourcesIn new) (sym c.in_ok-push.ensures) (c.in_ok-place.ensures.within, sources_wider old new c.in_ok-place.ensures.grows c.args.sources.now c.requires.sources)
