use Rattle.command_examples.proofs.Sending.{AllSending}
use Rattle.command_examples.proofs.plain.run14.Given as goal

abbrev pub invariant-loop-number : goal.invariant-loop-number
invariant-loop-number l = AllSending l.widths l.port l.packets l.number l.sent
