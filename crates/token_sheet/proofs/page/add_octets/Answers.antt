use Rattle.std.proofs.Common.{◌∙◌, replicate}
use Rattle.token_sheet.proofs.Spaces.{old_again, octet_more}
use Rattle.token_sheet.proofs.page.add_octets.Goals as goal

pub returns-in_err-push-clause-err : goal.returns-in_err-push-clause-err
returns-in_err-push-clause-err c = old_again c.args.text.now c.push.new.self (replicate c.loop.counter c.args.octet) (c.in_err-push.ensures.err ∙ c.loop.invariant)

pub loop-preserved : goal.loop-preserved
loop-preserved c = c.in_ok-push.ensures.ok ∙ octet_more c.args.text.now c.loop.text c.args.octet c.loop.counter c.loop.invariant

pub returns-clause-err : goal.returns-clause-err
returns-clause-err c = old_again c.args.text.now c.loop.text (replicate c.loop.counter c.args.octet) c.loop.invariant
