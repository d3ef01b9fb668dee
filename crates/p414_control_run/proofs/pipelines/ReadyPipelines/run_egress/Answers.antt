use Rattle.std.proofs.Common.{ap, ◌∙◌}
use Rattle.p414_syntax.specs.ControlExpansion.{control_number, egress}
use Rattle.p414_ready_tables.specs.Loaded.{Loaded}
use Rattle.p414_control_run.proofs.pipelines.ReadyPipelines.run_egress.Goals as goal

pub returns-clause-runs : goal.returns-clause-runs
returns-clause-runs c =
    λ x ex.
    c.in_ok-run_control.ensures.runs x ex egress
    (c.self.invariant.to_egress ∙ ap (λ (v : Loaded). control_number v.decls egress) c.self.view_is) x.egress ex.to_egress
