-- an interrupted write appends nothing
use Rattle.std.specs.Io.KnownBytes.{Keeps}
use Rattle.p4x_io.proofs.host.tries.try_write.Given as goal

abbrev pub invariant-loop : goal.invariant-loop
invariant-loop g l = Keeps (g.W.Write.contents l.fn.out) (g.W.Write.contents l.out)
