use Rattle.program16_file.proofs.Texts.{judged_text, unread_text, read_once}
use Rattle.program16_file.proofs.file.program_of.Goals as goal

pub returns-in-Ok-clause-is : goal.returns-in-Ok-clause-is
returns-in-Ok-clause-is c = judged_text c.args.text.now c.in-Ok.syntax c.in-Ok.ensures.found c.in-Ok.ensures.accepts c.in-Ok.ensures.refuses c.judge.result c.judge.ensures

pub returns-in-Ok-clause-once : goal.returns-in-Ok-clause-once
returns-in-Ok-clause-once c = read_once c.args.text.now c.in-Ok.syntax c.in-Ok.ensures.accepts c.judge.result

pub returns-in-Err-Refused-clause-is : goal.returns-in-Err-Refused-clause-is
returns-in-Err-Refused-clause-is c =
    let is = c.in-Err-Refused.field-0-is in
    rw is (unread_text c.args.text.now c.in-Err-Refused.fault (rw is at c.in-Err-Refused.ensures.refused) (rw is at c.in-Err-Refused.ensures.accepts) (rw is at c.in-Err-Refused.ensures.refuses))
