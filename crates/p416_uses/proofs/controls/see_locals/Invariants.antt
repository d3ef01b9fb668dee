use Rattle.std.proofs.Common.{◌≡◌, flat_map, drop}
use Rattle.p416_syntax.specs.Scopes.{in_apply}
use Rattle.p416_syntax.specs.Declarations.{local_uses}
use Rattle.p416_scopes.specs.Seen.{seen_part, seen_scope}
use Rattle.p416_listed_check.specs.Listings.{AreGiven}
use Rattle.p416_expression_uses.specs.Found.{after_all}
use Rattle.p416_uses.proofs.controls.see_locals.Given as goal

abbrev pub invariant-loop-declared : goal.invariant-loop-declared
invariant-loop-declared l = record {
  judged : after_all l.found (flat_map (local_uses (seen_scope l.fn.scope)) (drop l.declared-index l.locals)) ≡ after_all l.fn.found (flat_map (local_uses (seen_scope l.fn.scope)) l.locals);
  scope : seen_scope l.scope ≡ seen_scope l.fn.scope;
  top : l.scope.top ≡ l.fn.scope.top;
  part : seen_part l.scope.part ≡ in_apply;
  given : AreGiven (seen_scope l.fn.scope) l.given;
}
