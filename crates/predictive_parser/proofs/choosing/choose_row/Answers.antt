use Rattle.std.proofs.Common.{ap, subst, sym, ◌∷◌, [], ◌∙◌}
use Rattle.std.proofs.lemmas.Result.{IfOk-weaker}
use Rattle.predictive_parser.specs.Grammar.{first_fit, lines_of}
use Rattle.predictive_parser.specs.Choices.{Chooses}
use Rattle.predictive_parser.specs.Told.{told}
use Rattle.predictive_parser.proofs.FirstRow.{coded_alone}
use Rattle.predictive_parser.proofs.choosing.choose_row.Goals as goal

pub returns-in-Coded-clause-chooses : goal.returns-in-Coded-clause-chooses
returns-in-Coded-clause-chooses g c =
    IfOk-weaker c.choose_coded.result _ _
    (λ found f token s.
    subst (λ fit. Chooses found fit c.args.stack.now c.choose_coded.new.stack)
    (coded_alone g.B.Lookahead.grammar token (g.B.Lookahead.held c.args.builder.now) (g.B.Lookahead.coded c.args.word) ∙ ap (λ row. first_fit g.B.Lookahead.grammar token (g.B.Lookahead.held c.args.builder.now) (lines_of g.B.Lookahead.grammar (told (g.B.Lookahead.coded c.args.word) (row ∷ [])))) (sym c.in-Coded.is)) (f token s))
    c.choose_coded.ensures.chooses
