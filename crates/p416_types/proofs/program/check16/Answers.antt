use Rattle.p416_types.proofs.Telling.{told}
use Rattle.p416_types.proofs.program.check16.Goals as goal

pub returns-in-Err : goal.returns-in-Err
returns-in-Err c = told c.args.syntax c.in-Err.fault c.in-Err.ensures
