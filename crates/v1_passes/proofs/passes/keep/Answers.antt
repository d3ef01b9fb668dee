use Rattle.std.proofs.Common.{ap}
use Rattle.v1_passes.specs.internal.Steps.{of_program}
use Rattle.v1_passes.proofs.passes.keep.Goals as goal

pub returns : goal.returns
returns c = λ session. ap (of_program c.args.packets.now) (c.in_ok-numbers.ensures.preserves session)
