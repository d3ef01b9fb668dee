use Rattle.std.proofs.Common.{◌≡◌, ◌<◌, length, arith}
use Rattle.std.proofs.lemmas.Bool.Decides.{nat_tests}
use Rattle.text_lines.proofs.WordLaws.{first_size, first_word, no_word}
use Rattle.text_lines.proofs.word.next_word.Goals as goal

pub returns-then-is_empty-clause-none : goal.returns-then-is_empty-clause-none
returns-then-is_empty-clause-none c =
    let none : length c.split_at.result.1.now ≡ 0 = grind (arith, nat_tests) in
    no_word _ _ _ c.blank_size.ensures.is c.split_at.ensures.back none

pub returns-clause-next : goal.returns-clause-next
returns-clause-next c =
    let some : 0 < length c.split_at.result.1.now = grind (arith, nat_tests) in
    let size = first_size _ _ _ _ c.blank_size.ensures.is c.split_at.ensures.back c.word_size.ensures.is some in
    first_word _ _ _ _ _ _ c.blank_size.ensures.is c.split_at.ensures.back c.word_size.ensures.is c.split_at-2.ensures.front c.split_at-2.ensures.back
    (omega (arith, size, c.split_at-2.ensures.front_len))

pub returns-clause-shorter : goal.returns-clause-shorter
returns-clause-shorter c =
    let some : 0 < length c.split_at.result.1.now = grind (arith, nat_tests) in
    let size = first_size _ _ _ _ c.blank_size.ensures.is c.split_at.ensures.back c.word_size.ensures.is some in
    omega (arith, size, c.split_at-2.ensures.back_len, c.split_at.ensures.back_len)
