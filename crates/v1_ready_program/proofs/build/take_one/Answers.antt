use Rattle.v1_ready_program.proofs.build.take_one.Goals as goal

pub returns-clause-within : goal.returns-clause-within
returns-clause-within c =
    λ n all. let first = c.take_value-first.ensures.within n all in ((first.0, tt, tt), first.1)
