use Rattle.v1_ready_tests.proofs.made.MadeParts.ready.Goals as goal

pub returns-clause-within : goal.returns-clause-within
returns-clause-within c =
    λ n m all.
    (c.ready-first.ensures.within n m all.0, c.ready-second.ensures.within n m all.1, c.ready-third.ensures.within n m all.2)
