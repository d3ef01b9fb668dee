use Rattle.lower_expressions.specs.Table.{words_in}
use Rattle.lower_parser.proofs.Turning.{part_turn}
use Rattle.lower_parser.proofs.keys.key_from.Goals as goal

pub loop-part-preserved : goal.loop-part-preserved
loop-part-preserved c =
    part_turn (words_in c.args.table.now) _ _ _ _ _ _ _ _ c.args.parts.now c.loop-part.part-index _ _ c.loop-part-test.true c.loop-part.invariant
    c.in_ok-next.ensures c.in_ok-done.ensures.ok
