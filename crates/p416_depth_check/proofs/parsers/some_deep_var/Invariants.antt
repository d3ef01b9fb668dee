use Rattle.std.proofs.Common.{◌≡◌, drop}
use Rattle.std.specs.List.{list_any}
use Rattle.p416_depth_check.specs.internal.Deep.{is_deep_var}
use Rattle.p416_depth_check.proofs.parsers.some_deep_var.Given as goal

abbrev pub invariant-loop-var : goal.invariant-loop-var
invariant-loop-var l = list_any is_deep_var (drop l.var-index l.vars) ≡ list_any is_deep_var l.vars
