use Rattle.v1_statement_laws.proofs.Induction.{statements_show}
use Rattle.v1_statement_laws.proofs.statements_do_the_same.Goals as goal

pub returns : goal.returns
returns c = statements_show
