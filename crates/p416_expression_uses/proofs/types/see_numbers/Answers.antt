use Rattle.p416_expression_uses.proofs.types.see_numbers.Goals as goal

pub returns-in-Named : goal.returns-in-Named
returns-in-Named c = rw c.in-Named.is (c.see_stack.ensures c.in-Named.field-0)
