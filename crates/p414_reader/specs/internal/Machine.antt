-- What the reader answers, by the machine of the rows.
use Rattle.std.specs.Prelude.{◌≡◌, ℕ, List, Result}
use Rattle.token_division.specs.declared.division.Token.{Token}
use Rattle.predictive_parser.specs.Grammar.{parse}
use Rattle.text_reading.specs.declared.error.ReadError.{ReadError}
use Rattle.text_reading.specs.internal.Machine.{IsRead}
use Rattle.p414_tok.specs.declared.kind.TokenKind14.{TokenKind14}
use Rattle.p414_tok.specs.Front.{front}
use Rattle.p414_syntax.specs.declared.syntax.Syntax14.{Syntax14}
use Rattle.p414_reader.specs.declared.symbols.Word.TheVariants as word
use Rattle.p414_tok.specs.Lexemes.{lexemes}
use Rattle.p414_reader.specs.declared.built.Built.{Built}
use Rattle.p414_reader.specs.internal.Built.{nothing}
use Rattle.p414_reader.specs.internal.Rows.{grammar14}

-- what the machine answers for the tokens of a text
abbrev pub parsed14 : List ℕ → List (Token TokenKind14) → Result Built ℕ
parsed14 text tokens = parse grammar14 word.Decls nothing (lexemes text tokens)

-- the syntax has the declarations that are built
abbrev pub HoldsDecls : Syntax14 → Built → Type 0
HoldsDecls syntax end = syntax.decls ≡ end.decls

-- The answer is the fault at which the division into tokens stops; or it is the declarations that the grammar builds of the
-- tokens, or S1 at the first token that can't stand where it stands. Memory may run out in any case.
abbrev pub IsRead14 : List ℕ → Result Syntax14 ReadError → Type 0
IsRead14 = IsRead front parsed14 HoldsDecls
