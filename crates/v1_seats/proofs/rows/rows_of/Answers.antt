use Rattle.std.proofs.Common.{◌+◌, map, take, sym, subst, arith}
use Rattle.p416_syntax.specs.Declarations.{layouts_of}
use Rattle.v1_seats.specs.internal.Rows.{AreRows}
use Rattle.v1_seats.proofs.Turns.{row_turn}
use Rattle.v1_seats.proofs.rows.rows_of.Goals as goal

pub loop-name-preserved : goal.loop-name-preserved
loop-name-preserved c =
    subst (λ rows. AreRows (layouts_of c.args.top.now) (map (λ name. name.now) (take (c.loop-name.name-index + 1) c.args.names.now)) rows) (sym c.in_ok-push.ensures.items)
    (row_turn (layouts_of c.args.top.now) c.args.names.now c.loop-name.rows.items c.loop-name.name-index _ c.in_ok-row_of.field-0 (omega arith) c.loop-name.invariant c.in_ok-row_of.ensures)
