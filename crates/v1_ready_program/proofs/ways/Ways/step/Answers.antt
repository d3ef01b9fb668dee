use Rattle.std.proofs.Common.{◌≡◌, length, arith}
use Rattle.v1_ready_program.specs.internal.Coded.{seen_ways}
use Rattle.v1_ready_program.proofs.Walking.{read_way, read_order, ways_count}
use Rattle.v1_ready_program.proofs.ways.Ways.step.Goals as goal

pub index-requires : goal.index-requires
index-requires c =
    let same : length (seen_ways c.args.self.now) ≡ length c.args.self.now.steps.items = ways_count c.args.self.now.steps.items in
    omega (arith, c.requires.place, c.args.self.now.steps.ok.0)

pub returns-clause-way : goal.returns-clause-way
returns-clause-way c = read_way c.args.self.now.steps.items c.args.place c.index.result.now c.requires.ways.order c.requires.place c.index.ensures

pub returns-clause-order : goal.returns-clause-order
returns-clause-order c = read_order c.args.self.now.steps.items c.args.place c.index.result.now c.requires.ways.order c.requires.place c.index.ensures
