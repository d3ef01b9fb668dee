use Rattle.std.proofs.Common.{◌+◌, ◌≤◌, take, length, sym, subst, arith, length-take-le}
use Rattle.token_division.proofs.Places.{column_within}
use Rattle.token_division.proofs.Steps.{Divided, on_piece, on_fault}
use Rattle.token_division.proofs.Laid.{on_piece_laid}
use Rattle.token_division.proofs.Walks.{reached_next, walked_through, stopped}
use Rattle.token_division.proofs.division.divide.Goals as goal

pub place_behind-place-requires-clause-column : goal.place_behind-place-requires-clause-column
place_behind-place-requires-clause-column g c =
    let before = length-take-le c.loop-at.at c.args.text.now c.loop-at.invariant.divided.within in
    let piece = length-take-le c.in-Ok.piece.size c.split_at.result.1.now c.in-Ok.ensures.within.1 in
    omega (arith, column_within (take c.loop-at.at c.args.text.now) c.loop-at.place c.loop-at.invariant.divided.placed, before, piece, c.in-Ok.ensures.within.1, c.split_at.ensures.back_len)

pub returns-in-Err-clause-is : goal.returns-in-Err-clause-is
returns-in-Err-clause-is g c =
    on_fault g.L.Lexicon.front c.args.text.now c.split_at.result.1.now c.loop-at.tokens c.loop-at.at c.loop-at.is_first c.loop-at.place c.in-Err.rule c.loop-at.invariant.divided (omega arith) c.split_at.ensures.back (sym c.in-Err.ensures.is)

pub loop-at-preserved : goal.loop-at-preserved
loop-at-preserved g c =
    let text = c.args.text.now in
    let left = c.split_at.result.1.now in
    let at = c.loop-at.at in
    let size = c.in-Ok.piece.size in
    let before = length-take-le at text c.loop-at.invariant.divided.within in
    let inside : at + size ≤ length text = omega (arith, c.in-Ok.ensures.within.1, c.split_at.ensures.back_len) in
    let added = c.in_ok-add-in-Ok.ensures (take at text) before c.loop-at.invariant.divided.placed in
    let placed = c.place_behind-place.ensures (take at text) c.loop-at.invariant.divided.placed in
    record {
      divided =
          subst (λ b. Divided g.L.Lexicon.front text c.add.new.tokens (at + size) b c.place_behind-place.result) (sym c.first_after-is_first.ensures)
          (on_piece g.L.Lexicon.front text left c.loop-at.tokens c.add.new.tokens at c.loop-at.is_first c.loop-at.place c.place_behind-place.result c.in-Ok.piece c.loop-at.invariant.divided c.split_at.ensures.back (sym c.in-Ok.ensures.is) c.in-Ok.ensures.within.0 c.in-Ok.ensures.within.1 added placed);
      laid = on_piece_laid g.L.Lexicon.front text left c.loop-at.tokens c.add.new.tokens at c.loop-at.is_first c.in-Ok.piece.what size c.loop-at.invariant.laid c.split_at.ensures.back (sym c.in-Ok.ensures.is) c.in-Ok.ensures.within.0 inside added;
      reached = reached_next g.L.Lexicon.front text left c.loop-at.tokens c.add.new.tokens at c.loop-at.is_first c.first_after-is_first.result c.in-Ok.piece c.loop-at.invariant.reached c.split_at.ensures.back (sym c.in-Ok.ensures.is) c.in-Ok.ensures.within.0 inside added c.first_after-is_first.ensures;
    }

pub returns-in-Err-clause-walk : goal.returns-in-Err-clause-walk
returns-in-Err-clause-walk g c =
    stopped g.L.Lexicon.front c.args.text.now c.split_at.result.1.now c.loop-at.tokens c.loop-at.at c.loop-at.is_first c.loop-at.place c.in-Err.rule c.loop-at.invariant.reached (omega arith) c.split_at.ensures.back (sym c.in-Err.ensures.is) c.loop-at.invariant.divided.placed
