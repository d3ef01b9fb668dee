use Rattle.std.proofs.Common.{◌++◌, length, ap, ◌∙◌}
use Rattle.std.proofs.lemmas.Result.{on_ok_weaker}
use Rattle.p416_syntax.specs.Heads.{of_exp_head}
use Rattle.v1_ready_program.specs.internal.Ways.{way_at}
use Rattle.v1_ready_program.specs.internal.Coded.{seen_ways, seen_asks}
use Rattle.v1_ready_program.specs.internal.Passes.{filled_parts}
use Rattle.v1_ready_program.proofs.asks.callee_parts.Goals as goal

pub returns-clause-parts : goal.returns-clause-parts
returns-clause-parts c =
    let ways = seen_ways c.args.ways.now in
    on_ok_weaker c.fill_parts.result
    (λ f top.
    f ways
    ∙ ap (λ q. filled_parts q (of_exp_head c.args.head) ++ seen_asks ways c.args.asks.now)
    (c.method_ask.ensures.ask ways (way_at ways c.args.way) c.requires.ways.ends c.is_alone.ensures))
    c.fill_parts.ensures.asks

pub returns-clause-within : goal.returns-clause-within
returns-clause-within c =
    let count = length (seen_ways c.args.ways.now) in
    on_ok_weaker c.fill_parts.result (λ f. f count (c.method_ask.ensures.within count c.requires.ways.ends.two) c.requires.asks)
    c.fill_parts.ensures.within
