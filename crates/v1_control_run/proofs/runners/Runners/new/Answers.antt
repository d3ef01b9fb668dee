use Rattle.v1_control_run.proofs.Runs.{compute_applies, deparse_applies, egress_applies, ingress_applies, verify_applies}
use Rattle.v1_control_run.proofs.runners.Runners.new.Goals as goal

pub runner-requires : goal.runner-requires
runner-requires c = verify_applies _ c.requires

pub runner-requires-2 : goal.runner-requires-2
runner-requires-2 c = ingress_applies _ c.requires

pub runner-requires-3 : goal.runner-requires-3
runner-requires-3 c = egress_applies _ c.requires

pub runner-requires-4 : goal.runner-requires-4
runner-requires-4 c = compute_applies _ c.requires

pub runner-requires-5 : goal.runner-requires-5
runner-requires-5 c = deparse_applies _ c.requires
