use Rattle.v1_control_run.proofs.Seen.{ran_so}
use Rattle.v1_control_run.proofs.runners.Runners.run.Goals as goal

pub returns-in-Verify-clause-runs : goal.returns-in-Verify-clause-runs
returns-in-Verify-clause-runs c = ran_so _ c.args.self.now _ _ _ _ c.in-Verify.is c.run.ensures.runs

pub returns-in-Ingress-clause-runs : goal.returns-in-Ingress-clause-runs
returns-in-Ingress-clause-runs c = ran_so _ c.args.self.now _ _ _ _ c.in-Ingress.is c.run-in-Ingress.ensures.runs

pub returns-in-Egress-clause-runs : goal.returns-in-Egress-clause-runs
returns-in-Egress-clause-runs c = ran_so _ c.args.self.now _ _ _ _ c.in-Egress.is c.run-in-Egress.ensures.runs

pub returns-in-Compute-clause-runs : goal.returns-in-Compute-clause-runs
returns-in-Compute-clause-runs c = ran_so _ c.args.self.now _ _ _ _ c.in-Compute.is c.run-in-Compute.ensures.runs

pub returns-in-Deparse-clause-runs : goal.returns-in-Deparse-clause-runs
returns-in-Deparse-clause-runs c = ran_so _ c.args.self.now _ _ _ _ c.in-Deparse.is c.run-in-Deparse.ensures.runs
