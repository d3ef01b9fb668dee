use Rattle.std.proofs.Common.{sym, arith}
use Rattle.entries_file.proofs.ArgumentLaws.{colours_turn, colour_wrong}
use Rattle.entries_file.proofs.arguments.read_colours.Goals as goal

pub returns-in-None : goal.returns-in-None
returns-in-None c =
    rw (colour_wrong (λ word. word.now) c.args.words.now c.loop-word.word-index _ (omega arith) (sym c.in-None.ensures) c.loop-word.invariant.colours_only)

pub loop-word-preserved : goal.loop-word-preserved
loop-word-preserved c =
    let turn = colours_turn (λ word. word.now) c.args.words.now c.loop-word.word-index _ c.loop-word.colours c.in-Some.colour (omega arith) (sym c.in-Some.ensures) c.loop-word.invariant.colours_only c.loop-word.invariant.found in
    record { colours_only = turn.0; found = rw c.in_ok-push-in-Some.ensures.ok turn.1 }
