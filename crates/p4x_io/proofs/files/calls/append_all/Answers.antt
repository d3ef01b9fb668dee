use Rattle.p4x_io.proofs.Desks.{moves_on, grown_more, inside_after}
use Rattle.p4x_io.proofs.files.calls.append_all.Goals as goal

pub loop-at-preserved : goal.loop-at-preserved
loop-at-preserved g c =
    let so = c.loop-at.invariant in
    record {
      bound = inside_after c.args.text.now c.piece_at.result.now c.loop-at.at c.in-Ok.count 65536 so.bound c.piece_at.ensures.front c.in-Ok.ensures.takes.fits;
      moves = moves_on _ _ _ _ so.moves c.append.ensures.moves;
      so_far = grown_more _ _ _ c.args.text.now c.piece_at.result.now c.loop-at.at c.in-Ok.count 65536 so.so_far c.piece_at.ensures.front c.in-Ok.ensures.takes.fits c.in-Ok.ensures.grown;
    }
