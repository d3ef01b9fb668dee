use Rattle.std.proofs.Common.{◌≡◌, ◌||◌, drop}
use Rattle.p414_syntax.specs.Names.{Name, has_name}
use Rattle.p414_uses.proofs.collect.actions.parameters_of.Given as goal

abbrev pub invariant-loop-name : goal.invariant-loop-name
invariant-loop-name l = (name : Name) → (has_name l.set name || has_name (drop l.name-index l.names) name) ≡ has_name l.names name
