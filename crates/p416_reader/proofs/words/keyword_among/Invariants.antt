use Rattle.std.proofs.Common.{◌≡◌, drop}
use Rattle.p416_syntax.specs.Tokens.{keyword_among}
use Rattle.p416_reader.proofs.words.keyword_among.Given as goal

abbrev pub invariant-loop-word : goal.invariant-loop-word
invariant-loop-word l = keyword_among l.text (drop l.word-index l.words) ≡ keyword_among l.text l.words
