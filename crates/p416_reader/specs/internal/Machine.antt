-- What the reader answers, by the machine of the rows.
use Rattle.std.specs.Prelude.{◌≡◌, ℕ, List, Result}
use Rattle.token_division.specs.declared.division.Token.{Token}
use Rattle.predictive_parser.specs.Grammar.{parse}
use Rattle.text_reading.specs.declared.error.ReadError.{ReadError}
use Rattle.text_reading.specs.internal.Machine.{IsRead}
use Rattle.p416_tok.specs.declared.kind.TokenKind16.{TokenKind16}
use Rattle.p416_tok.specs.Front.{front}
use Rattle.p416_syntax.specs.declared.program.Syntax16.{Syntax16}
use Rattle.p416_reader.specs.declared.symbols.Word.TheVariants as word
use Rattle.p416_reader.specs.declared.symbols.DeclWord.TheVariants as decl_word
use Rattle.p416_reader.specs.declared.built.Built.{Built}
use Rattle.p416_reader.specs.Seen.{seen16}
use Rattle.p416_reader.specs.internal.Built.{nothing}
use Rattle.p416_reader.specs.internal.Rows.{grammar16}

-- what the machine answers for the tokens of a text
abbrev pub parsed16 : List ℕ → List (Token TokenKind16) → Result Built ℕ
parsed16 text tokens = parse grammar16 (word.Decl decl_word.Program) nothing (seen16 text tokens)

-- the syntax has the declarations and the names in `main` that are built
abbrev pub HoldsProgram : Syntax16 → Built → Type 0
HoldsProgram syntax end = syntax ≡ record { decls = end.decls.decls; main = end.decls.main }

-- The answer is the fault at which the division into tokens stops; or it is the program that the grammar builds of the
-- tokens, or S1 at the first token that can't stand where it stands. Memory may run out in any case.
abbrev pub IsRead16 : List ℕ → Result Syntax16 ReadError → Type 0
IsRead16 = IsRead front parsed16 HoldsProgram
