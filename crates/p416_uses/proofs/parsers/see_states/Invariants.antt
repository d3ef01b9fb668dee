use Rattle.std.proofs.Common.{◌≡◌, flat_map, drop}
use Rattle.p416_syntax.specs.Declarations.{state_uses}
use Rattle.p416_scopes.specs.Seen.{seen_scope}
use Rattle.p416_expression_uses.specs.Found.{after_all}
use Rattle.p416_uses.proofs.parsers.see_states.Given as goal

abbrev pub invariant-loop-state : goal.invariant-loop-state
invariant-loop-state l = record {
  judged : after_all l.found (flat_map (state_uses (seen_scope l.fn.scope)) (drop l.state-index l.states)) ≡ after_all l.fn.found (flat_map (state_uses (seen_scope l.fn.scope)) l.states);
  scope : seen_scope l.scope ≡ seen_scope l.fn.scope;
  top : l.scope.top ≡ l.fn.scope.top;
}
