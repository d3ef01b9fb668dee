use Rattle.std.proofs.Common.{ap, subst, sym, ◌∷◌, [], ◌∙◌, map}
use Rattle.std.proofs.lemmas.Result.{IfOk-weaker}
use Rattle.predictive_parser.specs.Grammar.{first_fit, plain_lines, with_more}
use Rattle.predictive_parser.specs.Choices.{Chooses}
use Rattle.predictive_parser.specs.Told.{told}
use Rattle.predictive_parser.proofs.FirstRow.{coded_line}
use Rattle.predictive_parser.proofs.choosing.choose_line.Goals as goal

pub returns-in-Coded-clause-chooses : goal.returns-in-Coded-clause-chooses
returns-in-Coded-clause-chooses g c =
    IfOk-weaker c.choose_coded.result _ _
    (λ found f token s.
    subst (λ lines. Chooses found (first_fit g.B.Lookahead.grammar token (g.B.Lookahead.held c.args.builder.now) lines) c.args.stack.now c.choose_coded.new.stack)
    (coded_line g.B.Lookahead.grammar (g.B.Lookahead.coded c.args.word) c.args.more.now ∙ ap (λ row. map (with_more c.args.more.now) (plain_lines (told (g.B.Lookahead.coded c.args.word) (row ∷ [])))) (sym c.in-Coded.is)) (f token s))
    c.choose_coded.ensures.chooses
