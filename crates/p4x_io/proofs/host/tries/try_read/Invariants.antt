-- an interrupted read consumes nothing
use Rattle.std.specs.Io.KnownBytes.{Keeps}
use Rattle.p4x_io.proofs.host.tries.try_read.Given as goal

abbrev pub invariant-loop : goal.invariant-loop
invariant-loop g l = Keeps (g.F.Read.remaining l.fn.file) (g.F.Read.remaining l.file)
