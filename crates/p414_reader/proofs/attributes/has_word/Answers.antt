use Rattle.std.proofs.Common.{◌∙◌, rules, tests}
use Rattle.std.specs.Str.{bytes_eq}
use Rattle.std.proofs.lemmas.Iterator.{YieldsList-from_slice}
use Rattle.std.proofs.lemmas.Iterator.Search.{any_from_yields_List}
use Rattle.p414_reader.proofs.Words.{among_words}
use Rattle.p414_reader.proofs.attributes.has_word.Goals as goal

pub returns : goal.returns
returns g c =
    let text = c.args.word.now in
    let items = c.args.items.now in
    any_from_yields_List (λ item. bytes_eq text (g.T.Worded.text item)) _ _ _ c.any.ensures.ran (YieldsList-from_slice items cc) (λ x b q k. search (rules, tests))
    ∙ among_words g.T.Worded.text text items
