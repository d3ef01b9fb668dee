use Rattle.std.proofs.Common.{length, sym, subst}
use Rattle.match_core.specs.internal.Codes.{IsCodeIndex}
use Rattle.match_core.specs.internal.Groups.{LevelsByGroup, group_found}
use Rattle.match_core.proofs.groups.key_groups.Goals as goal

pub returns-clause-index : goal.returns-clause-index
returns-clause-index c =
    subst (λ (pairs : LevelsByGroup). IsCodeIndex c.args.specs.now c.args.entries.now (length c.args.entries.now) (group_found c.args.specs.now pairs)) (sym c.in_ok-groups.ensures.same) c.in_ok-map.ensures.index
