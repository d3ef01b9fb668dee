use Rattle.std.proofs.Common.{rules}
use Rattle.match_core.specs.Best.{IsBest}
use Rattle.match_core.proofs.Leaders.{best_unique}
use Rattle.match_core.proofs.table.Table.lookup.Goals as goal

pub returns-clause-scan : goal.returns-clause-scan
returns-clause-scan c =
    let is : IsBest c.args.self.now c.args.key.now c.find.result = search rules in
    best_unique c.args.self.now c.args.key.now c.find.result is
