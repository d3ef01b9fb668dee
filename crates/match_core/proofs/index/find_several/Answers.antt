use Rattle.std.proofs.Common.{arith}
use Rattle.match_core.specs.internal.Groups.{group_found, pairs_of}
use Rattle.match_core.proofs.Coded.{longest_best, none_differ}
use Rattle.match_core.proofs.index.find_several.Goals as goal

pub returns : goal.returns
returns c =
    let is = c.requires.index in
    longest_best c.args.specs.now c.args.entries.now (group_found c.args.specs.now (pairs_of c.args.groups.now)) c.args.key.now is.plain is.specs_are c.requires.fits (omega arith) is.index c.find_in_groups.result c.find_in_groups.ensures

pub returns-then-key-specs : goal.returns-then-key-specs
returns-then-key-specs c = none_differ c.args.specs.now c.args.entries.now c.args.key.now c.if-key-specs.true
