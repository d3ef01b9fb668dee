use Rattle.std.proofs.Common.{map, ap, ◌∙◌}
use Rattle.p416_names.specs.SeenKinds.{seen_kind}
use Rattle.p416_scopes.specs.Seen.{seen_scope}
use Rattle.p416_uses.proofs.ParserUses.{select_told}
use Rattle.p416_uses.proofs.parsers.see_select.Goals as goal

pub returns : goal.returns
returns c =
    select_told _ _ _ (seen_scope c.args.scope.now) c.args.keys.now (map seen_kind c.deref.result.now) c.args.cases.now c.in_ok-kinds.ensures.found
    (ap (map seen_kind) c.deref.ensures.value ∙ c.in_ok-kinds.ensures.kinds) c.in_ok-see_cases.ensures
