use Rattle.std.proofs.Common.{◌≡◌, map, drop}
use Rattle.std.specs.List.{list_any}
use Rattle.p414_syntax.specs.Selects.{is_early}
use Rattle.p414_uses.specs.Shown.{shown_use}
use Rattle.p414_decl_check.proofs.selects.some_early.Given as goal

abbrev pub invariant-loop-item : goal.invariant-loop-item
invariant-loop-item l = list_any (is_early) (map shown_use (drop l.item-index l.uses)) ≡ list_any (is_early) (map shown_use l.uses)
