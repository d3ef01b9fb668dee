use Rattle.v1_statement_laws.proofs.Quiet.{tests_evaluate}
use Rattle.v1_statement_laws.proofs.tests_evaluate_expressions.Goals as goal

pub returns : goal.returns
returns c = tests_evaluate
