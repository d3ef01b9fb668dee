use Rattle.std.proofs.Common.{◌≡◌, drop}
use Rattle.std.specs.List.{list_any}
use Rattle.p416_top_check.specs.internal.Blocks.{is_other}
use Rattle.p416_top_check.proofs.blocks.some_other.Given as goal

abbrev pub invariant-loop-name : goal.invariant-loop-name
invariant-loop-name l = list_any (is_other l.top) (drop l.name-index l.names) ≡ list_any (is_other l.top) l.names
