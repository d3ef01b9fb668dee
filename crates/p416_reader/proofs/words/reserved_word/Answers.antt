use Rattle.std.proofs.Common.{filter, ap, ◌∙◌}
use Rattle.p416_syntax.specs.Keywords.{all_keywords16}
use Rattle.p416_syntax.specs.Tokens.{keyword_among}
use Rattle.p416_reader.specs.internal.Words.{begins_with}
use Rattle.p416_reader.proofs.ReservedWords.{narrowed}
use Rattle.p416_reader.proofs.words.reserved_word.Goals as goal

pub returns : goal.returns
returns c =
    let text = c.args.text.now in
    c.keyword_among.ensures
    ∙ ap (keyword_among text) (c.words_with.ensures ∙ ap (λ first. filter (begins_with first) all_keywords16) c.octet_at.ensures)
    ∙ narrowed text all_keywords16
