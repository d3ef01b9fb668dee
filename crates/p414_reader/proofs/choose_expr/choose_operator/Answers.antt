use Rattle.p414_reader.specs.internal.Classes.{infix_of}
use Rattle.std.proofs.Common.{sym, ap, ◌∙◌}
use Rattle.std.specs.Prelude.{slice_get}
use Rattle.p414_tok.specs.Lexemes.{lexemes}
use Rattle.p414_reader.specs.internal.Lexemes.{lexeme_of}
use Rattle.p414_reader.proofs.Choosing.{same_token, chosen_operator}
use Rattle.p414_reader.proofs.choose_expr.choose_operator.Goals as goal

pub returns-in-Some-clause-chooses : goal.returns-in-Some-clause-chooses
returns-in-Some-clause-chooses c =
    let tokens = lexemes c.args.reading.now.text.now c.args.reading.now.tokens.now in
    chosen_operator c.args.least c.args.most c.binary_power-power.result c.in-Some.operator c.args.more.now tokens c.args.place c.args.reading.now.built
    c.choose_first-in-Some.result c.args.stack.now c.choose_first-in-Some.new.stack (rw c.behind_operator-rest.ensures at c.choose_first-in-Some.ensures.chooses) c.binary_power-power.ensures.is
    (λ token s. ap infix_of (same_token token (lexeme_of c.token_at.result) (slice_get tokens c.args.place) s c.token_at.ensures) ∙ sym c.infix_of.ensures ∙ c.in-Some.is)
