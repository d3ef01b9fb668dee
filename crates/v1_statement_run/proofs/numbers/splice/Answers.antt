use Rattle.std.proofs.Common.{ℕ, ap, ◌∙◌, ◌+◌, ◌-◌, ◌*◌, ◌^◌, ◌%◌}
use Rattle.v1_statement_run.proofs.Cutting.{cut_again, three}
use Rattle.v1_statement_run.proofs.numbers.splice.Goals as goal

pub returns-clause-is : goal.returns-clause-is
returns-clause-is c =
    c.low-3.ensures.is
    ∙ ap (λ (n : ℕ). n % 2 ^ c.args.width) (three (c.args.old - c.low.result) (c.low-2.result * 2 ^ c.args.slice.low) c.low-below.result)
    ∙ cut_again (c.args.old - c.low.result + c.low-2.result * 2 ^ c.args.slice.low + c.low-below.result) c.args.width c.requires.width
    ∙ rw (c.low.ensures.is, c.low-2.ensures.is, c.low-below.ensures.is)
