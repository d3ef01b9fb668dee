use Rattle.std.proofs.Common.{take}
use Rattle.match_core.proofs.Sizing.{AreSized}
use Rattle.match_core.proofs.stores.shapes_of.Given as goal

abbrev pub invariant-loop-i : goal.invariant-loop-i
invariant-loop-i l = AreSized l.signature.objects (take l.i l.tables) (take l.i l.fills) l.shapes.items
