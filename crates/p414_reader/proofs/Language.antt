-- The rows read exactly what the grammar spells.
use Rattle.std.proofs.Common.{◌≡◌, ℕ, List, [], ◌∷◌, Ok, Err, refl, sym, subst}
use Rattle.predictive_parser.specs.Grammar.{parse}
use Rattle.predictive_parser.specs.Answers.{IsRefusedAt}
use Rattle.predictive_parser.proofs.Chains.{reads_all}
use Rattle.predictive_parser.proofs.Languages.{IsLanguage, refused_at}
use Rattle.p414_syntax.specs.declared.lexeme.Lexeme.{Lexeme}
use Rattle.p414_syntax.specs.declared.syntax.Syntax14.{Syntax14}
use Rattle.p414_syntax.specs.Written.{written}
use Rattle.p414_syntax.specs.Spells.{Spells}
use Rattle.p414_reader.specs.declared.symbols.Word.TheVariants as word
use Rattle.predictive_parser.specs.declared.symbol.Symbol.TheVariants as symbol
use Rattle.p414_reader.specs.declared.built.Built.{Built}
use Rattle.p414_reader.specs.internal.Built.{nothing}
use Rattle.p414_reader.specs.internal.Rows.{grammar14}
use Rattle.p414_reader.proofs.Closing.{closing14, closed14}
use Rattle.p414_reader.proofs.Sound.Grammar.{sound14}
use Rattle.p414_reader.proofs.Complete.Declarations.{decls_read}

-- what is built of a whole program
abbrev pub whole : Syntax14 → Built
whole s = record nothing { decls = s.decls }

complete14 : (s : Syntax14) (tokens : List Lexeme) → Spells s tokens → parse grammar14 word.Decls nothing tokens ≡ Ok (whole s)
complete14 s tokens h =
    subst (λ ts. parse grammar14 word.Decls nothing ts ≡ Ok (whole s)) (sym h.tokens_are)
    (reads_all grammar14 (symbol.Word word.Decls ∷ []) nothing (whole s) (written s) (decls_read s.decls nothing h.keeps))

pub language14 : IsLanguage grammar14 word.Decls nothing Spells whole
language14 = record {
  sound = λ tokens end e. let r = sound14 tokens end e in (r.0, r.1, sym r.2);
  complete = complete14;
}

-- where a token is refused, it is the first that can't stand there
pub refused_place : (tokens : List Lexeme) (at : ℕ) → parse grammar14 word.Decls nothing tokens ≡ Err at → IsRefusedAt Spells tokens at
refused_place tokens at e = refused_at grammar14 word.Decls nothing Spells whole language14 closing14 closed14 tokens at refl e
