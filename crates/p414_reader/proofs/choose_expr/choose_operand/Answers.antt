use Rattle.p414_tok.specs.Lexemes.{lexemes}
use Rattle.p414_reader.proofs.Choosing.{chosen_operand}
use Rattle.p414_reader.proofs.choose_expr.choose_operand.Goals as goal

pub returns-clause-chooses : goal.returns-clause-chooses
returns-clause-chooses c =
    chosen_operand c.args.least c.args.prefix.now c.args.more.now (lexemes c.args.reading.now.text.now c.args.reading.now.tokens.now) c.args.place c.args.reading.now.built
    c.choose_first.result c.args.stack.now c.choose_first.new.stack c.choose_first.ensures.chooses
