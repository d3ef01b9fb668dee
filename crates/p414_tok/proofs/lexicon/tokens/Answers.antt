use Rattle.std.proofs.Common.{◌≡◌, ◌-◌, true, drop, All}
use Rattle.std.specs.List.{list_all}
use Rattle.std.proofs.lemmas.Result.{IfOk-weaker}
use Rattle.token_division.specs.Layout.{IsPieceOf}
use Rattle.p414_syntax.specs.SpeltLexemes.{is_spelt_lexeme}
use Rattle.p414_tok.specs.Front.{front}
use Rattle.p414_tok.specs.Lexemes.{lexemes}
use Rattle.p414_tok.specs.Spelled.{IsSpelled}
use Rattle.p414_tok.proofs.Spelling.{tokens_spelled}
use Rattle.p414_tok.proofs.Spelt.{all_spelt}
use Rattle.p414_tok.proofs.Laws.{tokens_and_trivia, refused_rightly}
use Rattle.p414_tok.proofs.lexicon.tokens.Goals as goal

pub returns-clause-spelled : goal.returns-clause-spelled
returns-clause-spelled c =
    let text = c.args.text.now in
    IfOk-weaker c.divide.result (All (IsPieceOf front text)) (All (λ token. IsSpelled token.kind (drop token.from text) (token.to - token.from)))
    (tokens_spelled text) c.divide.ensures.pieces

pub returns-clause-spelt : goal.returns-clause-spelt
returns-clause-spelt c =
    let text = c.args.text.now in
    IfOk-weaker c.divide.result (All (IsPieceOf front text)) (λ tokens. list_all is_spelt_lexeme (lexemes text tokens) ≡ true)
    (λ tokens h. all_spelt text tokens (tokens_spelled text tokens h)) c.divide.ensures.pieces

pub returns-clause-trivia : goal.returns-clause-trivia
returns-clause-trivia c = tokens_and_trivia c.args.text.now c.divide.result c.divide.ensures.walk

pub returns-clause-refused : goal.returns-clause-refused
returns-clause-refused c = refused_rightly c.args.text.now c.divide.result c.divide.ensures.walk
