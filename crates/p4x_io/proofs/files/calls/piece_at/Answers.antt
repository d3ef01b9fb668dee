use Rattle.std.proofs.Common.{arith, length-drop, drop}
use Rattle.std.proofs.lemmas.List.{take_rest}
use Rattle.p4x_io.proofs.Desks.{take_most}
use Rattle.p4x_io.proofs.files.calls.piece_at.Goals as goal

pub returns-clause-front : goal.returns-clause-front
returns-clause-front c = simp take_rest (take_most 65536 (drop c.args.at c.args.text.now) c.min-count.result (omega (arith, length-drop c.args.at c.args.text.now)))
