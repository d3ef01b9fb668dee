use Rattle.v1_ready_program.proofs.build.take_two.Goals as goal

pub returns-clause-within : goal.returns-clause-within
returns-clause-within c =
    λ n all.
    let first = c.take_value-first.ensures.within n all in
    let second = c.take_value-second.ensures.within n first.1 in ((first.0, second.0, tt), second.1)
