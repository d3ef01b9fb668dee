use Rattle.std.proofs.Common.{◌≡◌, ◌++◌, replicate}
use Rattle.token_sheet.proofs.page.add_octets.Given as goal

abbrev pub invariant-loop : goal.invariant-loop
invariant-loop l = l.text ≡ l.fn.text ++ replicate l.counter l.octet
