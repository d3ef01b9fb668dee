use Rattle.p414_body_check.proofs.Exactly.{c28_expressions, c28_result, known, no_self_call}
use Rattle.p414_body_check.proofs.each.breaks_c28.Goals as goal

pub returns-then-branch : goal.returns-then-branch
returns-then-branch c = c28_expressions c.args.names.now c.in_ok-has_deep_expression.field-0 c.in_ok-has_deep_expression.ensures c.if-branch.true

pub nests_too_deep-requires-clause-known : goal.nests_too_deep-requires-clause-known
nests_too_deep-requires-clause-known c = known c.args.names.now c.requires.declared

pub nests_too_deep-requires-clause-acyclic : goal.nests_too_deep-requires-clause-acyclic
nests_too_deep-requires-clause-acyclic c = no_self_call c.args.names.now c.requires.controls

pub returns : goal.returns
returns c = c28_result c.args.names.now c.in_ok-has_deep_expression.field-0 c.in_ok-has_deep_expression.ensures c.if-branch.false c.nests_too_deep.result c.nests_too_deep.ensures
