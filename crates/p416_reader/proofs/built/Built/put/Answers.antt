use Rattle.std.proofs.Common.{sym}
use Rattle.std.proofs.lemmas.Result.{on_ok_weaker}
use Rattle.p416_reader.proofs.built.Built.put.Goals as goal

pub returns-in-Body : goal.returns-in-Body
returns-in-Body c = rw c.in-Body.is (on_ok_weaker c.put-in-Body.result (λ f. sym (f c.args.self.now)) c.put-in-Body.ensures)

pub returns-in-State : goal.returns-in-State
returns-in-State c = rw c.in-State.is (on_ok_weaker c.put-in-State.result (λ f. sym (f c.args.self.now)) c.put-in-State.ensures)

pub returns-in-Control : goal.returns-in-Control
returns-in-Control c = rw c.in-Control.is (on_ok_weaker c.put-in-Control.result (λ f. sym (f c.args.self.now)) c.put-in-Control.ensures)
