use Rattle.std.proofs.Common.{sym, ap, ◌∙◌}
use Rattle.v1_ready_nodes.proofs.Growing.{grows_further}
use Rattle.v1_ready_bodies.specs.Seen.{seen_statement}
use Rattle.v1_ready_bodies.specs.internal.Steps.{seen_all, cases_joined}
use Rattle.v1_ready_bodies.proofs.Steps.{cases_on}
use Rattle.v1_ready_bodies.proofs.cases.join_cases.Goals as goal

pub loop-before-preserved : goal.loop-before-preserved
loop-before-preserved g c =
    let b = g.S.Singles.block c.args.singles.now in
    let rest = seen_statement c.loop-before.nodes c.loop-before.found in
    let made = seen_all c.loop-before.nodes c.loop-before.made in
    record {
      joined =
          cases_on b c.in-Case.label.now c.in-Case.before c.in-Case.field-2 rest _ made _ c.in_ok-found.ensures.joined
          ∙ (ap (λ x. cases_joined b rest x made) (sym c.in-Case.ensures) ∙ c.loop-before.invariant.joined);
      rest = c.in_ok-found.ensures.rest;
      within = c.in_ok-found.ensures.within;
      grows = grows_further c.args.nodes.now c.loop-before.nodes c.join_case.new.nodes c.loop-before.invariant.grows c.in_ok-found.ensures.grows;
    }
