use Rattle.std.proofs.Common.{◌≡◌, ◌<◌, length, arith}
use Rattle.std.proofs.lemmas.Bool.Decides.{nat_tests}
use Rattle.text_lines.proofs.LineLaws.{last_line, ended_line}
use Rattle.text_lines.proofs.lines.next_line.Goals as goal

pub returns-then-is_empty-2-clause-next : goal.returns-then-is_empty-2-clause-next
returns-then-is_empty-2-clause-next c =
    let some : 0 < length c.args.text.now = grind (arith, nat_tests) in
    let none : length c.split_at.result.1.now ≡ 0 = grind (arith, nat_tests) in
    last_line _ _ _ _ some c.line_size.ensures.is c.line_size.ensures.within c.split_at.ensures.front c.split_at.ensures.back none

pub returns-clause-next : goal.returns-clause-next
returns-clause-next c =
    let some : 0 < length c.split_at.result.1.now = grind (arith, nat_tests) in
    ended_line _ _ _ _ _ _ c.line_size.ensures.is some c.split_at.ensures.front c.split_at.ensures.back c.split_at-2.ensures.back c.without_return.ensures
