use Rattle.std.proofs.Common.{◌≡◌, ◌++◌, map, drop}
use Rattle.p414_syntax.specs.Names.{has_name}
use Rattle.p414_syntax.specs.Uses.{uses_of_sources}
use Rattle.p414_uses.specs.Shown.{shown_use}
use Rattle.p414_uses.proofs.collect.actions.add_sources.Given as goal

abbrev pub invariant-loop-argument : goal.invariant-loop-argument
invariant-loop-argument l = map shown_use l.found.items ++ uses_of_sources (has_name l.parameters) (drop l.argument-index l.arguments) ≡ map shown_use l.fn.found.items ++ uses_of_sources (has_name l.parameters) l.arguments
