use Rattle.std.proofs.Common.{◌∙◌, sym, ap, drop}
use Rattle.digraph.specs.internal.Search.{up_to}
use Rattle.digraph.proofs.Marking.{up_to_skip, popped}
use Rattle.digraph.proofs.Visiting.{are_components, left_turn, took_edge}
use Rattle.digraph.proofs.search.drop_greater.Goals as goal

pub loop-number-preserved : goal.loop-number-preserved
loop-number-preserved c =
    let z = are_components in let y = left_turn in let x = took_edge in
    ap (up_to c.args.most) (popped c.pop.result c.loop-number.numbers c.pop.new.self c.pop.ensures)
    ∙ (sym (ap (up_to c.args.most) c.in-Some.ensures ∙ up_to_skip c.args.most c.in-Some.number (drop 1 c.loop-number.numbers) c.if-number-most.true) ∙ c.loop-number.invariant)
