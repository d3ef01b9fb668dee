use Rattle.std.proofs.Common.{map}
use Rattle.p416_expression_uses.specs.Seen.{seen_counted}
use Rattle.p416_counter_check.proofs.Pairing.{outside_by}
use Rattle.p416_counter_check.proofs.outside.counts_outside.Goals as goal

pub returns : goal.returns
returns c ds positions all =
    outside_by c.args.decl.now c.in_ok-set.set (map seen_counted c.args.counted.now) c.some_missing-outside.result ds positions c.in_ok-set.ensures c.some_missing-outside.ensures all
