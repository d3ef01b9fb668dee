use Rattle.std.proofs.Common.{◌≡◌, ◌++◌, drop}
use Rattle.p416_sheet.specs.Tokens.{all_words_put, are_put}
use Rattle.p416_sheet.proofs.sheet.put_tokens.Given as goal

abbrev pub invariant-loop-put : goal.invariant-loop-put
invariant-loop-put l = l.sheet ++ all_words_put (drop l.put-index l.tokens) ≡ l.fn.sheet ++ all_words_put l.tokens
