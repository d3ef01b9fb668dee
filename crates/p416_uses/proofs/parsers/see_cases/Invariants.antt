use Rattle.std.proofs.Common.{◌≡◌, map, flat_map, drop}
use Rattle.p416_syntax.specs.Declarations.{case_uses}
use Rattle.p416_names.specs.SeenKinds.{seen_kind}
use Rattle.p416_scopes.specs.Seen.{seen_scope}
use Rattle.p416_expression_uses.specs.Found.{after_all}
use Rattle.p416_uses.proofs.parsers.see_cases.Given as goal

abbrev pub invariant-loop-case : goal.invariant-loop-case
invariant-loop-case l = after_all l.found (flat_map (case_uses (seen_scope l.scope) (map seen_kind l.keys)) (drop l.case-index l.cases)) ≡ after_all l.fn.found (flat_map (case_uses (seen_scope l.scope) (map seen_kind l.keys)) l.cases)
