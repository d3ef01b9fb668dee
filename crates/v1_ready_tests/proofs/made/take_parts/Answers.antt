use Rattle.std.proofs.Common.{sym, ap, ◌∙◌}
use Rattle.p416_syntax.specs.Heads.{of_exp_head}
use Rattle.v1_ready_tests.specs.internal.Coded.{all_over}
use Rattle.v1_ready_tests.specs.internal.Passes.{behind_made}
use Rattle.v1_ready_tests.proofs.made.take_parts.Goals as goal

pub returns-in-Member-clause-rest : goal.returns-in-Member-clause-rest
returns-in-Member-clause-rest c =
    λ es ts. c.take_one.ensures.rest es ts ∙ sym (ap (λ h. behind_made (of_exp_head h) (all_over es ts c.args.made.now)) c.in-Member.is)

pub returns-in-Index-clause-rest : goal.returns-in-Index-clause-rest
returns-in-Index-clause-rest c =
    λ es ts. c.take_one-in-Index.ensures.rest es ts ∙ sym (ap (λ h. behind_made (of_exp_head h) (all_over es ts c.args.made.now)) c.in-Index.is)

pub returns-in-Slice-clause-rest : goal.returns-in-Slice-clause-rest
returns-in-Slice-clause-rest c =
    λ es ts. c.take_one-in-Slice.ensures.rest es ts ∙ sym (ap (λ h. behind_made (of_exp_head h) (all_over es ts c.args.made.now)) c.in-Slice.is)

pub returns-in-Call-clause-rest : goal.returns-in-Call-clause-rest
returns-in-Call-clause-rest c =
    λ es ts. c.take_two.ensures.rest es ts ∙ sym (ap (λ h. behind_made (of_exp_head h) (all_over es ts c.args.made.now)) c.in-Call.is)

pub returns-in-Lookahead-clause-rest : goal.returns-in-Lookahead-clause-rest
returns-in-Lookahead-clause-rest c =
    λ es ts. c.take_two-in-Lookahead.ensures.rest es ts ∙ sym (ap (λ h. behind_made (of_exp_head h) (all_over es ts c.args.made.now)) c.in-Lookahead.is)

pub returns-in-Cast-clause-rest : goal.returns-in-Cast-clause-rest
returns-in-Cast-clause-rest c =
    λ es ts. c.take_one-in-Cast.ensures.rest es ts ∙ sym (ap (λ h. behind_made (of_exp_head h) (all_over es ts c.args.made.now)) c.in-Cast.is)

pub returns-in-Unary-clause-rest : goal.returns-in-Unary-clause-rest
returns-in-Unary-clause-rest c =
    λ es ts. c.take_one-in-Unary.ensures.rest es ts ∙ sym (ap (λ h. behind_made (of_exp_head h) (all_over es ts c.args.made.now)) c.in-Unary.is)

pub returns-in-Binary-clause-rest : goal.returns-in-Binary-clause-rest
returns-in-Binary-clause-rest c =
    λ es ts. c.take_two-in-Binary.ensures.rest es ts ∙ sym (ap (λ h. behind_made (of_exp_head h) (all_over es ts c.args.made.now)) c.in-Binary.is)

pub returns-in-Choice-clause-rest : goal.returns-in-Choice-clause-rest
returns-in-Choice-clause-rest c =
    λ es ts. c.take_three.ensures.rest es ts ∙ sym (ap (λ h. behind_made (of_exp_head h) (all_over es ts c.args.made.now)) c.in-Choice.is)

pub returns-in-Argument-clause-rest : goal.returns-in-Argument-clause-rest
returns-in-Argument-clause-rest c =
    λ es ts. c.take_two-in-Argument.ensures.rest es ts ∙ sym (ap (λ h. behind_made (of_exp_head h) (all_over es ts c.args.made.now)) c.in-Argument.is)

pub returns-in-Listed-clause-rest : goal.returns-in-Listed-clause-rest
returns-in-Listed-clause-rest c =
    λ es ts. c.take_one-in-Listed.ensures.rest es ts ∙ sym (ap (λ h. behind_made (of_exp_head h) (all_over es ts c.args.made.now)) c.in-Listed.is)

pub returns-in_default-clause-within : goal.returns-in_default-clause-within
returns-in_default-clause-within c = λ n m all. (c.no_parts.ensures.within n m, all)
