use Rattle.std.proofs.Common.{◌≡◌, map, drop}
use Rattle.p414_syntax.specs.Names.{find_name}
use Rattle.p414_ready_tables.specs.internal.Defaults.{action_name}
use Rattle.p414_ready_tables.proofs.Kept.{found_from}
use Rattle.p414_ready_tables.proofs.defaults.place_of.Given as goal

abbrev pub invariant-loop-place : goal.invariant-loop-place
invariant-loop-place l = found_from l.name l.place (drop l.place l.actions) ≡ find_name (map action_name l.actions) l.name
