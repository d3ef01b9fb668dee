use Rattle.v1_ready_tests.proofs.made.take_one.Goals as goal

pub returns-clause-within : goal.returns-clause-within
returns-clause-within c =
    λ n m all.
    let first = c.take_made-first.ensures.within n m all in ((first.0, tt, tt), first.1)
