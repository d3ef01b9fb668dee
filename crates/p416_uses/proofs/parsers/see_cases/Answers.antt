use Rattle.std.specs.Prelude.{map}
use Rattle.p416_syntax.specs.Declarations.{case_uses}
use Rattle.p416_names.specs.SeenKinds.{seen_kind}
use Rattle.p416_scopes.specs.Seen.{seen_scope}
use Rattle.p416_uses.proofs.Loops.{flat_on}
use Rattle.p416_uses.proofs.parsers.see_cases.Goals as goal

pub loop-case-preserved : goal.loop-case-preserved
loop-case-preserved c = flat_on (case_uses (seen_scope c.args.scope.now) (map seen_kind c.args.keys.now)) c.args.cases.now c.loop-case.case-index c.case-item.result _ _ _ c.loop-case-test.true c.case-item.is c.in_ok-see_case.ensures c.loop-case.invariant
