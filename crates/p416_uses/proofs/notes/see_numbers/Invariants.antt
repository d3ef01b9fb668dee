use Rattle.std.proofs.Common.{◌≡◌, map, drop}
use Rattle.p416_syntax.specs.Uses.{a_number}
use Rattle.p416_expression_uses.specs.Found.{after_all}
use Rattle.p416_uses.proofs.notes.see_numbers.Given as goal

abbrev pub invariant-loop-number : goal.invariant-loop-number
invariant-loop-number l = after_all l.found (map a_number (drop l.number-index l.numbers)) ≡ after_all l.fn.found (map a_number l.numbers)
