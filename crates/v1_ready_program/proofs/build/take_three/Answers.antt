use Rattle.v1_ready_program.proofs.build.take_three.Goals as goal

pub returns-clause-within : goal.returns-clause-within
returns-clause-within c =
    λ n all.
    let first = c.take_value-first.ensures.within n all in
    let second = c.take_value-second.ensures.within n first.1 in
    let third = c.take_value-third.ensures.within n second.1 in ((first.0, second.0, third.0), third.1)
