use Rattle.p416_reader.proofs.Choosing.{chosen_operator}
use Rattle.p416_reader.proofs.choose_operator.choose_row.Goals as goal

pub returns-clause-chooses : goal.returns-clause-chooses
returns-clause-chooses c =
    chosen_operator c.args.least c.args.most c.args.following.now c.args.more.now c.args.reading.now.seen c.args.place c.args.reading.now.built
    c.choose_first.result c.args.stack.now c.choose_first.new.stack c.choose_first.ensures.chooses
