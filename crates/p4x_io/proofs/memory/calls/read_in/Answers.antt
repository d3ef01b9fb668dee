use Rattle.p4x_io.proofs.Slots.{files_after_read}
use Rattle.p4x_io.proofs.memory.calls.read_in.Goals as goal

pub returns-in-Some-clause-files : goal.returns-in-Some-clause-files
returns-in-Some-clause-files c =
    files_after_read c.args.name.now c.args.slots.now c.in-Some.i c.index-slots-i.result c.read.new.self c.in-Some.ensures c.read.ensures.name c.read.ensures.known
