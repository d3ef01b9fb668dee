use Rattle.std.proofs.Common.{filter, ap, ◌∙◌}
use Rattle.token_division.specs.Pieces.{mark_at}
use Rattle.p416_syntax.specs.Marks.{mark_text16, all_marks16}
use Rattle.p416_tok.specs.Beginnings.{mark_begins_with}
use Rattle.p416_tok.proofs.Beginnings.{narrowed}
use Rattle.p416_tok.proofs.marks.mark_of.Goals as goal

pub returns-clause-is : goal.returns-clause-is
returns-clause-is c =
    let text = c.args.text.now in
    c.mark_at.ensures.is
    ∙ ap (λ marks. mark_at mark_text16 marks text) (c.marks_with.ensures ∙ ap (λ first. filter (mark_begins_with first) all_marks16) c.octet_at.ensures)
    ∙ narrowed text all_marks16
