use Rattle.std.proofs.Common.{◌≡◌, ◌<◌, ◌≤◌, ◌-◌, ◌*◌, ◌^◌}
use Rattle.entries_file.specs.Numbers.{parts_value}
use Rattle.entries_file.proofs.numerals.parts_value.Given as goal

abbrev pub invariant-loop : goal.invariant-loop
invariant-loop l = record {
  same : parts_value l.base l.separator l.more 0 l.word ≡ parts_value l.base l.separator (l.more - l.counter) l.value l.rest;
  few : l.counter ≤ l.more;
  small : l.value < 2 ^ (8 * l.counter);
}
