use Rattle.std.proofs.Common.{◌≡◌, Err, subst}
use Rattle.predictive_parser.specs.Grammar.{parse}
use Rattle.text_reading.specs.internal.Machine.{IsParsed}
use Rattle.text_reading.proofs.Clauses.{parsed_err}
use Rattle.p414_reader.specs.declared.symbols.Word.TheVariants as word
use Rattle.p414_tok.specs.Lexemes.{lexemes}
use Rattle.p414_reader.specs.internal.Built.{nothing}
use Rattle.p414_reader.specs.internal.Rows.{grammar14}
use Rattle.p414_reader.proofs.read.parse_decls.Goals as goal

pub returns-in_err-parse_text : goal.returns-in_err-parse_text
returns-in_err-parse_text c =
    parsed_err c.args.text.now c.args.tokens.now c.in_err-parse_text.field-0.0 (parse grammar14 word.Decls nothing (lexemes c.args.reading.now.text.now c.args.reading.now.tokens.now)) c.from_residual.result _ _
    c.from_residual.ensures.1
    (subst (λ b. IsParsed {V = Unit {0}} c.args.text.now c.args.tokens.now (parse grammar14 word.Decls b (lexemes c.args.reading.now.text.now c.args.reading.now.tokens.now)) (Err c.in_err-parse_text.field-0.0) (λ done end. c.parse_text.new.builder.built ≡ end)) c.requires c.in_err-parse_text.ensures.is)
