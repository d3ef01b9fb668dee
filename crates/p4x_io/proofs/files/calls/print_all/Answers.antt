use Rattle.std.proofs.Common.{arith}
use Rattle.p4x_io.proofs.Desks.{said_more, inside_after}
use Rattle.p4x_io.proofs.files.calls.print_all.Goals as goal

pub loop-at-preserved : goal.loop-at-preserved
loop-at-preserved g c =
    let so = c.loop-at.invariant in
    record {
      bound = inside_after c.args.text.now c.piece_at.result.now c.loop-at.at c.in-Ok.count 65536 so.bound c.piece_at.ensures.front c.in-Ok.ensures.takes.fits;
      later = omega (arith, so.later, c.write.ensures.later);
      so_far = said_more _ _ _ c.args.text.now c.piece_at.result.now c.loop-at.at c.in-Ok.count 65536 so.so_far c.piece_at.ensures.front c.in-Ok.ensures.takes.fits c.in-Ok.ensures.said;
    }
