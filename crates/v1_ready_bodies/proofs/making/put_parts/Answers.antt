use Rattle.std.proofs.Common.{ap}
use Rattle.v1_ready_bodies.specs.internal.Steps.{finish}
use Rattle.v1_ready_bodies.proofs.Steps.{puts_then, puts_block, puts_if, puts_if_else, puts_switch}
use Rattle.v1_ready_bodies.proofs.making.put_parts.Goals as goal

pub returns-in_ok-put_both-in-Then-clause-parts : goal.returns-in_ok-put_both-in-Then-clause-parts
returns-in_ok-put_both-in-Then-clause-parts c = λ t b ds st high.
    rw (c.in_ok-put_both-in-Then.ensures, c.in-Then.ensures) (puts_then b ds st c.in-Then.before c.in-Then.last c.args.left.now)

pub returns-in_ok-put_within-in-Block-clause-parts : goal.returns-in_ok-put_within-in-Block-clause-parts
returns-in_ok-put_within-in-Block-clause-parts c = λ t b ds st high.
    rw (c.in_ok-put_within-in-Block.ensures, c.in-Block.ensures) (puts_block b ds st c.in-Block.body c.args.names c.args.seats c.args.left.now high)

pub returns-in_ok-put_if-in-If-clause-parts : goal.returns-in_ok-put_if-in-If-clause-parts
returns-in_ok-put_if-in-If-clause-parts c = λ t b ds st high.
    rw (c.in_ok-put_if-in-If.ensures, c.in-If.ensures) (puts_if b ds st c.in-If.condition c.in-If.positive c.args.names c.args.seats c.args.left.now high)

pub returns-in_ok-put_if_else-in-IfElse-clause-parts : goal.returns-in_ok-put_if_else-in-IfElse-clause-parts
returns-in_ok-put_if_else-in-IfElse-clause-parts c = λ t b ds st high.
    rw (c.in_ok-put_if_else-in-IfElse.ensures, c.in-IfElse.ensures) (puts_if_else b ds st c.in-IfElse.condition c.in-IfElse.positive c.in-IfElse.negative c.args.names c.args.seats c.args.left.now high)

pub returns-in_ok-put_switch-in-Switch-clause-parts : goal.returns-in_ok-put_switch-in-Switch-clause-parts
returns-in_ok-put_switch-in-Switch-clause-parts c = λ t b ds st high.
    rw (c.in_ok-put_switch-in-Switch.ensures, c.in-Switch.ensures) (ap (finish b ds c.args.left.now) (puts_switch b ds st c.in-Switch.table.now c.in-Switch.cases))
