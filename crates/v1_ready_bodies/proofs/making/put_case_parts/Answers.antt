use Rattle.std.proofs.Common.{ap}
use Rattle.v1_ready_bodies.specs.internal.Steps.{finish}
use Rattle.v1_ready_bodies.proofs.Steps.{puts_case}
use Rattle.v1_ready_bodies.proofs.making.put_case_parts.Goals as goal

pub returns-in_ok-put_case-in-Case-clause-parts : goal.returns-in_ok-put_case-in-Case-clause-parts
returns-in_ok-put_case-in-Case-clause-parts c = λ t b ds st high.
    rw (c.in_ok-put_case-in-Case.ensures, c.in-Case.ensures) (ap (finish b ds c.args.left.now) (puts_case b ds st c.in-Case.before c.in-Case.label.now c.in-Case.body c.args.names c.args.seats high))
