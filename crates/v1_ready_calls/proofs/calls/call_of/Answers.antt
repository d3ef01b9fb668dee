use Rattle.std.proofs.Common.{sym, ap, ◌∙◌}
use Rattle.p416_syntax.specs.Tree.{Exp16}
use Rattle.p416_syntax.specs.Tree as tree
use Rattle.p416_scopes.specs.Seen.{seen_scope}
use Rattle.v1_ready_program.specs.Seen.{seen_seats}
use Rattle.v1_ready_statements.specs.Called.{call_ready}
use Rattle.v1_ready_operands.specs.Callees.{around_of}
use Rattle.v1_ready_calls.proofs.calls.call_of.Goals as goal

pub call_by_head-requires-clause-whole : goal.call_by_head-requires-clause-whole
call_by_head-requires-clause-whole c = c.requires.whole ∙ ap (λ (e : Exp16). tree.call e c.args.given.now) c.head.ensures

pub returns-clause-statement : goal.returns-clause-statement
returns-clause-statement c =
    let b = around_of c.args.callees in
    let s = seen_scope c.args.around.scope.now in
    let seats = seen_seats c.args.around.seats.now in
    c.in_ok-statement.ensures.statement ∙ ap (λ (e : Exp16). call_ready b s seats e c.args.given.now) (sym c.head.ensures)
