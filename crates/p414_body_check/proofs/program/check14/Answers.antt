use Rattle.p414_body_check.proofs.Telling.{told}
use Rattle.p414_body_check.proofs.program.check14.Goals as goal

pub returns-in-Err : goal.returns-in-Err
returns-in-Err c = told c.args.syntax c.in-Err.fault c.in-Err.ensures
