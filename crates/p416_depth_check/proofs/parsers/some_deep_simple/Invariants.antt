use Rattle.std.proofs.Common.{◌≡◌, drop}
use Rattle.std.specs.List.{list_any}
use Rattle.p416_depth_check.specs.internal.Deep.{is_deep_simple}
use Rattle.p416_depth_check.proofs.parsers.some_deep_simple.Given as goal

abbrev pub invariant-loop-part : goal.invariant-loop-part
invariant-loop-part l = list_any is_deep_simple (drop l.part-index l.parts) ≡ list_any is_deep_simple l.parts
