use Rattle.p416_syntax.specs.Unknown.{declaration_number}
use Rattle.p416_type_totals.proofs.Edges.{numbers_now}
use Rattle.p416_type_totals.proofs.graph.numbers_of.Goals as goal

pub loop-name-preserved : goal.loop-name-preserved
loop-name-preserved c = numbers_now (λ name. name.now) (declaration_number c.args.types.now) c.args.names.now c.loop-name.name-index _ _ _ _ c.loop-name-test.true c.in_ok-add_number.ensures c.loop-name.invariant
