use Rattle.std.proofs.Common.{◌≡◌, map, drop}
use Rattle.std.specs.List.{list_any}
use Rattle.p414_syntax.specs.Unknown.{is_unknown}
use Rattle.p414_uses.specs.Shown.{shown_use}
use Rattle.p414_decl_check.proofs.unknown.some_unknown.Given as goal

abbrev pub invariant-loop-item : goal.invariant-loop-item
invariant-loop-item l = list_any (is_unknown l.names) (map shown_use (drop l.item-index l.uses)) ≡ list_any (is_unknown l.names) (map shown_use l.uses)
