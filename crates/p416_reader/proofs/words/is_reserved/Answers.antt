use Rattle.std.proofs.Common.{is_some, ap, ◌∙◌}
use Rattle.p416_syntax.specs.Keywords.{all_keywords16}
use Rattle.p416_reader.proofs.ReservedWords.{among}
use Rattle.p416_reader.proofs.words.is_reserved.Goals as goal

pub returns : goal.returns
returns c = c.is_some.ensures ∙ ap is_some c.reserved_word.ensures ∙ among c.args.text.now all_keywords16
