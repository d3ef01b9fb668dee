use Rattle.std.proofs.Common.{◌<◌, get_or, subst, arith}
use Rattle.digraph.proofs.Members.{among_place, place_among}
use Rattle.digraph.proofs.graph.all_below.Goals as goal

pub returns-then-number-limit : goal.returns-then-number-limit
returns-then-number-limit c =
    (get_or c.args.numbers.now c.loop-number.number-index 0, among_place c.args.numbers.now c.loop-number.number-index 0 c.loop-number-test.true, c.if-number-limit.true)

pub returns : goal.returns
returns c b i =
    let p = place_among c.args.numbers.now b 0 i in
    subst (λ n. n < c.args.limit) p.2 (c.loop-number.invariant p.0 (omega (arith, p.1, c.loop-number-test.false)))
