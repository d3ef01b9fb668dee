use Rattle.std.proofs.Common.{sym}
use Rattle.std.proofs.lemmas.Result.{on_ok_weaker}
use Rattle.p414_reader.proofs.built.Built.put.Goals as goal

pub returns-in-Header : goal.returns-in-Header
returns-in-Header c = rw c.in-Header.is (on_ok_weaker c.put-in-Header.result (λ f. sym (f c.args.self.now)) c.put-in-Header.ensures)

pub returns-in-Calculation : goal.returns-in-Calculation
returns-in-Calculation c = rw c.in-Calculation.is (on_ok_weaker c.put-in-Calculation.result (λ f. sym (f c.args.self.now)) c.put-in-Calculation.ensures)

pub returns-in-State : goal.returns-in-State
returns-in-State c = rw c.in-State.is (on_ok_weaker c.put-in-State.result (λ f. sym (f c.args.self.now)) c.put-in-State.ensures)

pub returns-in-Call : goal.returns-in-Call
returns-in-Call c = rw c.in-Call.is (on_ok_weaker c.put-in-Call.result (λ f. sym (f c.args.self.now)) c.put-in-Call.ensures)

pub returns-in-Table : goal.returns-in-Table
returns-in-Table c = rw c.in-Table.is (on_ok_weaker c.put-in-Table.result (λ f. sym (f c.args.self.now)) c.put-in-Table.ensures)

pub returns-in-Object : goal.returns-in-Object
returns-in-Object c = rw c.in-Object.is (on_ok_weaker c.put_object.result (λ f. sym (f c.args.self.now)) c.put_object.ensures)

pub returns-in-Body : goal.returns-in-Body
returns-in-Body c = rw c.in-Body.is (on_ok_weaker c.put-in-Body.result (λ f. sym (f c.args.self.now)) c.put-in-Body.ensures)
