use Rattle.std.proofs.Common.{◌∙◌, rules, tests}
use Rattle.std.specs.Str.{bytes_eq}
use Rattle.std.proofs.lemmas.Iterator.{YieldsList-from_slice}
use Rattle.std.proofs.lemmas.Iterator.Search.{any_from_yields_List}
use Rattle.p414_syntax.specs.Keywords.{keyword_text}
use Rattle.p414_reader.proofs.Words.{among_words}
use Rattle.p414_reader.proofs.token.is_keyword_among.Goals as goal

pub returns : goal.returns
returns c =
    let text = c.args.text.now in
    let words = c.args.words.now in
    any_from_yields_List (λ word. bytes_eq text (keyword_text word)) _ _ _ c.any.ensures.ran (YieldsList-from_slice words cc) (λ x b q k. search (rules, tests))
    ∙ among_words keyword_text text words
