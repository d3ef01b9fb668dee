use Rattle.std.proofs.Common.{◌≡◌, map, drop}
use Rattle.p416_syntax.specs.Names.{has_name}
use Rattle.p416_names.specs.SeenKinds.{referred}
use Rattle.p416_names.proofs.members.is_among.Given as goal

abbrev pub invariant-loop-known : goal.invariant-loop-known
invariant-loop-known l = has_name (map referred (drop l.known-index l.names)) l.name ≡ has_name (map referred l.names) l.name
