use Rattle.match_core.proofs.Grouped.{group_put}
use Rattle.match_core.proofs.groups.put_code.Goals as goal

pub returns-clause-put : goal.returns-clause-put
returns-clause-put c =
    group_put c.args.specs.now c.args.groups.now.entries c.take_levels-levels.new.groups.entries c.give_levels.new.groups.entries c.args.code.now c.in_ok-group.group c.take_levels-levels.result.items c.put.new.levels.items
    c.take_levels-levels.ensures.others c.in_ok-give_levels.ensures c.args.bits c.args.number c.requires.specs.one_lpm c.in_ok-group.ensures c.take_levels-levels.ensures.levels
    (rw c.prefix_in.ensures at c.in_ok-put.ensures.put)
