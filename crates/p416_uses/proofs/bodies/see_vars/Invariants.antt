use Rattle.std.proofs.Common.{◌≡◌, flat_map, drop}
use Rattle.p416_syntax.specs.Declarations.{var_uses}
use Rattle.p416_scopes.specs.Seen.{seen_scope}
use Rattle.p416_expression_uses.specs.Found.{after_all}
use Rattle.p416_uses.proofs.bodies.see_vars.Given as goal

abbrev pub invariant-loop-var : goal.invariant-loop-var
invariant-loop-var l = after_all l.found (flat_map (var_uses (seen_scope l.scope)) (drop l.var-index l.vars)) ≡ after_all l.fn.found (flat_map (var_uses (seen_scope l.scope)) l.vars)
