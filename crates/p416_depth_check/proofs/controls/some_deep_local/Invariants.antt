use Rattle.std.proofs.Common.{◌≡◌, drop}
use Rattle.std.specs.List.{list_any}
use Rattle.p416_depth_check.specs.internal.Deep.{is_deep_local}
use Rattle.p416_depth_check.proofs.controls.some_deep_local.Given as goal

abbrev pub invariant-loop-declared : goal.invariant-loop-declared
invariant-loop-declared l = list_any is_deep_local (drop l.declared-index l.locals) ≡ list_any is_deep_local l.locals
