-- What a text reads as is a syntax that a text can have.
use Rattle.std.proofs.Common.{◌≡◌, ℕ, suc, Bool, true, false, not, ◌||◌, if◌then◌else◌, List, [], ◌∷◌, Option, Some, None, Result, Ok, refl, subst, bytes_eq}
use Rattle.std.specs.Prelude.{IfOk}
use Rattle.std.specs.List.{list_all}
use Rattle.std.proofs.lemmas.Result.{IfOk-weaker}
use Rattle.token_division.specs.declared.division.Token.{Token}
use Rattle.token_division.specs.Division.{division}
use Rattle.token_division.proofs.Whole.{pieces_of}
use Rattle.p416_syntax.specs.declared.keyword.Keyword16.{Keyword16}
use Rattle.p416_syntax.specs.declared.mark.Mark16.{Mark16}
use Rattle.p416_syntax.specs.declared.mark.Mark16.TheVariants as mark_of
use Rattle.p416_syntax.specs.Keywords.{keyword_text16, all_keywords16, is_reserved16, is_among16}
use Rattle.p416_syntax.specs.SpeltLexemes.{is_identifier16, is_spelt_lexeme16}
use Rattle.p416_tok.specs.declared.kind.TokenKind16.{TokenKind16}
use Rattle.p416_tok.specs.declared.kind.TokenKind16.TheVariants as kind
use Rattle.p416_tok.specs.Front.{front}
use Rattle.p416_tok.specs.Lexemes.{lexeme_as, lexeme_in, lexemes16}
use Rattle.p416_tok.proofs.Spelling.{tokens_spelled}
use Rattle.p416_tok.proofs.Spelt.{all_spelt}
use Rattle.p416_syntax.specs.declared.program.Syntax16.{Syntax16}
use Rattle.p416_syntax.specs.Tokens.{is_spelt_seen, keyword_among, seen_as, seen_word}
use Rattle.p416_syntax.specs.Written.{written}
use Rattle.p416_syntax.specs.Conditions.{is_syntax, without_parentheses}
use Rattle.p416_syntax.specs.Spelt.{is_spelt16}
use Rattle.text_reading.specs.declared.error.ReadError.{ReadError}
use Rattle.p416_reader.specs.Seen.{Tokens, octets_in, seen_greater, seen_less, seen_mark, seen_as_kind, seen_at, seen_from, seen16}
use Rattle.p416_reader.specs.Reading.{Reads16}
use Rattle.p416_reader.specs.internal.Machine.{IsRead16}
use Rattle.p416_reader.proofs.Lists.{both, left_true, right_true, not_false}
use Rattle.p416_reader.proofs.Bare.{bare_keeps}
use Rattle.p416_reader.proofs.BareTokens.{Spelt, bare_spelt}
use Rattle.p416_reader.proofs.Clauses.{found16}

-- a name or a reserved word

not_reserved : (text : List ℕ) (words : List Keyword16) → keyword_among text words ≡ None → is_among16 text words ≡ false
not_reserved text [] h = refl
not_reserved text (word ∷ words) h = go (bytes_eq text (keyword_text16 word)) h (not_reserved text words)
  where
    go : (same : Bool) → (if same then Some word else keyword_among text words) ≡ None → (keyword_among text words ≡ None → is_among16 text words ≡ false) → (same || is_among16 text words) ≡ false
    go true e f = cc
    go false e f = f e

word_spelt : (text : List ℕ) → is_identifier16 text ≡ true → is_spelt_seen (seen_word text) ≡ true
word_spelt text h = go (keyword_among text all_keywords16) refl
  where
    go : (o : Option Keyword16) → keyword_among text all_keywords16 ≡ o → is_spelt_seen (seen_as text o) ≡ true
    go (Some word) e = refl
    go None e = both (is_identifier16 text) (not (is_reserved16 text)) h (not_false (is_reserved16 text) (not_reserved text all_keywords16 e))

-- marks

greater_spelt : (b : Bool) → is_spelt_seen (seen_greater b) ≡ true
greater_spelt true = refl
greater_spelt false = refl

less_spelt : (b : Bool) → is_spelt_seen (seen_less b) ≡ true
less_spelt true = refl
less_spelt false = refl

mark_spelt : (text : List ℕ) (all : Tokens) (place : ℕ) (token : Token TokenKind16) (m : Mark16) → is_spelt_seen (seen_mark text all place token m) ≡ true
mark_spelt text all place token mark_of.BraceOpen = refl
mark_spelt text all place token mark_of.BraceClose = refl
mark_spelt text all place token mark_of.ParenOpen = refl
mark_spelt text all place token mark_of.ParenClose = refl
mark_spelt text all place token mark_of.BracketOpen = refl
mark_spelt text all place token mark_of.BracketClose = refl
mark_spelt text all place token mark_of.Semicolon = refl
mark_spelt text all place token mark_of.Colon = refl
mark_spelt text all place token mark_of.Comma = refl
mark_spelt text all place token mark_of.Dot = refl
mark_spelt text all place token mark_of.DotDot = refl
mark_spelt text all place token mark_of.Assign = refl
mark_spelt text all place token mark_of.Less = less_spelt _
mark_spelt text all place token mark_of.Greater = greater_spelt _
mark_spelt text all place token mark_of.LessEqual = refl
mark_spelt text all place token mark_of.GreaterEqual = refl
mark_spelt text all place token mark_of.Equal = refl
mark_spelt text all place token mark_of.NotEqual = refl
mark_spelt text all place token mark_of.ShiftLeft = refl
mark_spelt text all place token mark_of.Plus = refl
mark_spelt text all place token mark_of.PlusPlus = refl
mark_spelt text all place token mark_of.Minus = refl
mark_spelt text all place token mark_of.SaturatingPlus = refl
mark_spelt text all place token mark_of.SaturatingMinus = refl
mark_spelt text all place token mark_of.Star = refl
mark_spelt text all place token mark_of.Ampersand = refl
mark_spelt text all place token mark_of.AndAnd = refl
mark_spelt text all place token mark_of.Mask = refl
mark_spelt text all place token mark_of.Bar = refl
mark_spelt text all place token mark_of.OrOr = refl
mark_spelt text all place token mark_of.Caret = refl
mark_spelt text all place token mark_of.Tilde = refl
mark_spelt text all place token mark_of.Bang = refl
mark_spelt text all place token mark_of.Question = refl

token_spelt : (text : List ℕ) (all : Tokens) (place : ℕ) (token : Token TokenKind16) (k : TokenKind16) → is_spelt_lexeme16 (lexeme_as k (octets_in text token)) ≡ true → is_spelt_seen (seen_as_kind text all place token k) ≡ true
token_spelt text all place token kind.Name h = word_spelt (octets_in text token) h
token_spelt text all place token (kind.Number n) h = h
token_spelt text all place token (kind.Mark m) h = mark_spelt text all place token m
token_spelt text all place token kind.Quoted h = h
token_spelt text all place token (kind.At a) h = refl
token_spelt text all place token (kind.Include i) h = refl

seen_spelt : (text : List ℕ) (all : Tokens) (place : ℕ) (tokens : Tokens) → list_all is_spelt_lexeme16 (lexemes16 text tokens) ≡ true → Spelt (seen_from text all place tokens)
seen_spelt text all place [] h = refl
seen_spelt text all place (token ∷ tokens) h =
    both (is_spelt_seen (seen_at text all place token)) (list_all is_spelt_seen (seen_from text all (suc place) tokens))
    (token_spelt text all place token token.kind (left_true (is_spelt_lexeme16 (lexeme_in text token)) (list_all is_spelt_lexeme16 (lexemes16 text tokens)) h))
    (seen_spelt text all (suc place) tokens (right_true (is_spelt_lexeme16 (lexeme_in text token)) (list_all is_spelt_lexeme16 (lexemes16 text tokens)) h))

-- the tokens of every text that is divided are ones that a text can have
division_spelt : (text : List ℕ) (tokens : Tokens) → division front text ≡ Ok tokens → Spelt (seen16 text tokens)
division_spelt text tokens e = seen_spelt text tokens 0 tokens (all_spelt text tokens (tokens_spelled text tokens (pieces_of front text tokens e)))

pub spelt : (text : List ℕ) (s : Syntax16) → Reads16 text s → is_spelt16 s ≡ true
spelt text s h =
    let full = h.spelled.in_full in
    both (is_syntax without_parentheses s) (list_all is_spelt_seen (written s))
    (subst (λ x. is_syntax without_parentheses x ≡ true) h.spelled.same (bare_keeps full h.spelled.keeps))
    (subst (λ x. Spelt (written x)) h.spelled.same (bare_spelt full (subst Spelt h.spelled.tokens_are (division_spelt text h.tokens h.divided))))

pub spelt_answer : (text : List ℕ) (r : Result Syntax16 ReadError) → IsRead16 text r → IfOk r (λ s. is_spelt16 s ≡ true)
spelt_answer text r h = IfOk-weaker r (Reads16 text) (λ s. is_spelt16 s ≡ true) (spelt text) (found16 text r h)
