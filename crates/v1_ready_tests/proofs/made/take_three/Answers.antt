use Rattle.std.proofs.Common.{ap, ◌∙◌}
use Rattle.v1_ready_tests.specs.internal.Coded.{made_over, all_over}
use Rattle.v1_ready_tests.specs.internal.Passes.{Made, MadeParts, front_made, rest_made}
use Rattle.v1_ready_tests.proofs.made.take_three.Goals as goal

abbrev all_three : Made → Made → Made → MadeParts
all_three a b x = record { first = a; second = b; third = x }

pub returns-clause-parts : goal.returns-clause-parts
returns-clause-parts c =
    λ es ts.
    let vs = all_over es ts c.args.made.now in
    let third = made_over es ts c.take_made-third.result in
    ap (λ a. all_three a (made_over es ts c.take_made-second.result) third) (c.take_made-first.ensures.made es ts)
    ∙ (ap (λ b. all_three (front_made vs) b third) (c.take_made-second.ensures.made es ts ∙ ap front_made (c.take_made-first.ensures.rest es ts))
    ∙ ap (all_three (front_made vs) (front_made (rest_made vs)))
    (c.take_made-third.ensures.made es ts ∙ ap front_made (c.take_made-second.ensures.rest es ts ∙ ap rest_made (c.take_made-first.ensures.rest es ts))))

pub returns-clause-rest : goal.returns-clause-rest
returns-clause-rest c =
    λ es ts.
    c.take_made-third.ensures.rest es ts
    ∙ ap rest_made (c.take_made-second.ensures.rest es ts ∙ ap rest_made (c.take_made-first.ensures.rest es ts))

pub returns-clause-within : goal.returns-clause-within
returns-clause-within c =
    λ n m all.
    let first = c.take_made-first.ensures.within n m all in
    let second = c.take_made-second.ensures.within n m first.1 in
    let third = c.take_made-third.ensures.within n m second.1 in ((first.0, second.0, third.0), third.1)
