use Rattle.std.proofs.Common.{◌≡◌, map, drop}
use Rattle.std.specs.List.{list_any}
use Rattle.p416_expression_uses.specs.Seen.{seen_counted}
use Rattle.p416_counter_check.specs.internal.Pairs.{is_missing}
use Rattle.p416_counter_check.proofs.outside.some_missing.Given as goal

abbrev pub invariant-loop-next : goal.invariant-loop-next
invariant-loop-next l = list_any (is_missing l.set) (map seen_counted (drop l.next-index l.counted)) ≡ list_any (is_missing l.set) (map seen_counted l.counted)
