use Rattle.command_examples.proofs.Steps.{Again}
use Rattle.command_examples.proofs.plain.header_again.Given as goal

abbrev pub invariant-loop-width : goal.invariant-loop-width
invariant-loop-width l = Again l.widths l.packet l.width-index l.at l.header
