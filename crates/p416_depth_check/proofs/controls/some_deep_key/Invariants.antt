use Rattle.std.proofs.Common.{◌≡◌, drop}
use Rattle.std.specs.List.{list_any}
use Rattle.p416_depth_check.specs.internal.Deep.{is_deep_key}
use Rattle.p416_depth_check.proofs.controls.some_deep_key.Given as goal

abbrev pub invariant-loop-key : goal.invariant-loop-key
invariant-loop-key l = list_any is_deep_key (drop l.key-index l.keys) ≡ list_any is_deep_key l.keys
