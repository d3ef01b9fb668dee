use Rattle.std.proofs.Common.{◌≡◌, ◌++◌, map, drop}
use Rattle.std.specs.List.{flat_map}
use Rattle.p414_syntax.specs.Uses.{uses_of_state_attr}
use Rattle.p414_uses.specs.Shown.{shown_use}
use Rattle.p414_uses.proofs.collect.tables.add_object.Given as goal

abbrev pub invariant-loop-attribute : goal.invariant-loop-attribute
invariant-loop-attribute l = map shown_use l.found.items ++ flat_map (uses_of_state_attr l.judged) (drop l.attribute-index l.attributes) ≡ map shown_use l.fn.found.items ++ flat_map (uses_of_state_attr l.judged) l.attributes
