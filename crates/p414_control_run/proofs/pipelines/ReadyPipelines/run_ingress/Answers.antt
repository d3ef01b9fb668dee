use Rattle.std.proofs.Common.{ap, ◌∙◌}
use Rattle.p414_syntax.specs.ControlExpansion.{control_number, ingress}
use Rattle.p414_ready_tables.specs.Loaded.{Loaded}
use Rattle.p414_control_run.proofs.pipelines.ReadyPipelines.run_ingress.Goals as goal

pub returns-clause-runs : goal.returns-clause-runs
returns-clause-runs c =
    λ x ex.
    c.in_ok-run_control.ensures.runs x ex ingress
    (c.self.invariant.to_ingress ∙ ap (λ (v : Loaded). control_number v.decls ingress) c.self.view_is) x.ingress ex.to_ingress
