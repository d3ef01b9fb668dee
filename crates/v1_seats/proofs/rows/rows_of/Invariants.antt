use Rattle.std.proofs.Common.{map, take}
use Rattle.p416_syntax.specs.Declarations.{layouts_of}
use Rattle.v1_seats.specs.internal.Rows.{AreRows}
use Rattle.v1_seats.proofs.rows.rows_of.Given as goal

abbrev pub invariant-loop-name : goal.invariant-loop-name
invariant-loop-name l = AreRows (layouts_of l.top) (map (λ name. name.now) (take l.name-index l.names)) l.rows.items
