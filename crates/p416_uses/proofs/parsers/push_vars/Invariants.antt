use Rattle.std.proofs.Common.{◌≡◌, ◌++◌, map, drop}
use Rattle.p416_uses.specs.Parts.{var_name}
use Rattle.p416_uses.proofs.parsers.push_vars.Given as goal

abbrev pub invariant-loop-var : goal.invariant-loop-var
invariant-loop-var l = map (λ name. name.now) l.names.items ++ map var_name (drop l.var-index l.vars) ≡ map (λ name. name.now) l.fn.names.items ++ map var_name l.vars
