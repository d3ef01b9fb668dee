use Rattle.std.proofs.Common.{◌≡◌, ◌++◌, length, take, subst, sym, ◌∙◌, arith}
use Rattle.std.proofs.lemmas.Grind.{common_steps}
use Rattle.p4x_io.proofs.Desks.{moves_on}
use Rattle.p4x_io.proofs.Reading.{Front, front_more, front_end, front_over, reads_at}
use Rattle.p4x_io.proofs.files.calls.read_file.Goals as goal

pub returns-in-Ok-eq0-clause-gives : goal.returns-in-Ok-eq0-clause-gives
returns-in-Ok-eq0-clause-gives g c = λ file told.
    let so = c.loop-piece.invariant in
    let reads = reads_at _ _ _ _ file (length c.loop-piece.text.items) 0 c.in-Ok-eq0.ensures.octets (so.moves.others c.args.name.now tt ∙ told) (omega arith) (omega arith) in
    (front_end file c.loop-piece.text.items _ (so.front file told) reads, omega arith)

pub loop-piece-preserved : goal.loop-piece-preserved
loop-piece-preserved g c =
    let so = c.loop-piece.invariant in
    record {
      moves = moves_on _ _ _ _ so.moves c.read.ensures.moves;
      front = λ file told.
          let reads = reads_at _ _ _ _ file (length c.loop-piece.text.items) c.in-Ok.count c.in-Ok.ensures.octets (so.moves.others c.args.name.now tt ∙ told) (omega arith) (omega arith) in
          let now : c.extend_from_slice.new.self.items ≡ c.loop-piece.text.items ++ take c.in-Ok.count c.read.new.into = grind (arith, common_steps) in
          subst (Front file) (sym now) (front_more file c.loop-piece.text.items c.read.new.into c.in-Ok.count (so.front file told) reads);
    }

pub returns-clause-gives : goal.returns-clause-gives
returns-clause-gives g c = λ file told. front_over file c.loop-piece.text.items c.args.limit (c.loop-piece.invariant.front file told) (omega arith)
