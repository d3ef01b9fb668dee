use Rattle.std.proofs.Common.{sym}
use Rattle.match_core.specs.internal.Groups.{pairs_of}
use Rattle.match_core.proofs.Grouped.{groups_longest}
use Rattle.match_core.proofs.groups.find_in_groups.Goals as goal

pub returns : goal.returns
returns c =
    groups_longest c.args.specs.now (pairs_of c.args.groups.now) c.args.key.now c.levels_of.result.now c.find_number.result c.requires.same
    (sym c.levels_of.ensures)
    (rw (c.width_in.ensures, c.prefix_in.ensures) at c.find_number.ensures)
