use Rattle.p414_body_check.proofs.StateRules.{no_cycle}
use Rattle.p414_body_check.proofs.parsers.has_idle_cycle.Goals as goal

pub returns-in-None : goal.returns-in-None
returns-in-None c =
    no_cycle c.args.syntax.now.decls c.args.graph.now c.in_ok-first_idle_cycle.field-0 c.requires c.in_ok-first_idle_cycle.ensures (cc c.in-None.is)
