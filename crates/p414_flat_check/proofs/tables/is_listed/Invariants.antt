use Rattle.std.proofs.Common.{◌≡◌, drop}
use Rattle.p414_syntax.specs.Names.{has_name}
use Rattle.p414_flat_check.proofs.tables.is_listed.Given as goal

abbrev pub invariant-loop-known : goal.invariant-loop-known
invariant-loop-known l = has_name (drop l.known-index l.listed) l.name ≡ has_name l.listed l.name
