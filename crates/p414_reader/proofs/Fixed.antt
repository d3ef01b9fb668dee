-- The classes that have one token, and what a token of another class is.
use Rattle.std.proofs.Common.{◌≡◌, ℕ, zero, suc, Bool, true, false, not, nat_eq, List, [], ◌∷◌, Option, Some, None, refl, sym, ap, subst, ◌∙◌, bytes_eq}
use Rattle.std.proofs.lemmas.Bool.{eqb-true}
use Rattle.predictive_parser.proofs.Meanings.{Fixed}
use Rattle.p414_syntax.specs.declared.keyword.Keyword.{Keyword}
use Rattle.p414_syntax.specs.declared.lexeme.Literal.{Literal}
use Rattle.p414_syntax.specs.declared.lexeme.Lexeme.{Lexeme}
use Rattle.p414_syntax.specs.declared.lexeme.Lexeme.TheVariants as lexeme
use Rattle.p414_syntax.specs.declared.mark.Mark.{Mark}
use Rattle.p414_syntax.specs.declared.mark.Mark.TheVariants as mark
use Rattle.p414_syntax.specs.Words.{keyword}
use Rattle.p414_syntax.specs.Conditions.{is_among}
use Rattle.p414_reader.specs.declared.symbols.Class.{Class}
use Rattle.p414_reader.specs.declared.symbols.Class.TheVariants as class
use Rattle.p414_reader.specs.declared.built.Built.{Built}
use Rattle.p414_reader.specs.internal.Classes.{mark_number, is_mark, is_named, is_number, is_new, accepts}
use Rattle.p414_reader.specs.internal.Rows.{grammar14}
use Rattle.p414_syntax.specs.Keywords.{keyword_text}
use Rattle.p414_reader.proofs.Lists.{text_is, left_true, right_true, not_true}

-- a mark is known by its number

at_place : List Mark → ℕ → Mark
at_place [] n = mark.Tilde
at_place (m ∷ ms) zero = m
at_place (m ∷ ms) (suc n) = at_place ms n

mark_of : ℕ → Mark
mark_of n =
    at_place
    (mark.BraceOpen ∷ mark.BraceClose ∷ mark.ParenOpen ∷ mark.ParenClose ∷ mark.BracketOpen ∷ mark.BracketClose ∷ mark.Semicolon ∷ mark.Colon ∷ mark.Comma
    ∷ mark.Dot ∷ mark.Assign ∷ mark.Less ∷ mark.Greater ∷ mark.LessEqual ∷ mark.GreaterEqual ∷ mark.Equal ∷ mark.NotEqual ∷ mark.ShiftLeft
    ∷ mark.ShiftRight ∷ mark.Plus ∷ mark.Minus ∷ mark.Star ∷ mark.Ampersand ∷ mark.Bar ∷ mark.Caret ∷ [])
    n

mark_back : (m : Mark) → mark_of (mark_number m) ≡ m
unfolding mark_of at_place
mark_back mark.BraceOpen = refl
mark_back mark.BraceClose = refl
mark_back mark.ParenOpen = refl
mark_back mark.ParenClose = refl
mark_back mark.BracketOpen = refl
mark_back mark.BracketClose = refl
mark_back mark.Semicolon = refl
mark_back mark.Colon = refl
mark_back mark.Comma = refl
mark_back mark.Dot = refl
mark_back mark.Assign = refl
mark_back mark.Less = refl
mark_back mark.Greater = refl
mark_back mark.LessEqual = refl
mark_back mark.GreaterEqual = refl
mark_back mark.Equal = refl
mark_back mark.NotEqual = refl
mark_back mark.ShiftLeft = refl
mark_back mark.ShiftRight = refl
mark_back mark.Plus = refl
mark_back mark.Minus = refl
mark_back mark.Star = refl
mark_back mark.Ampersand = refl
mark_back mark.Bar = refl
mark_back mark.Caret = refl
mark_back mark.Tilde = refl

mark_is : (m other : Mark) → nat_eq (mark_number m) (mark_number other) ≡ true → other ≡ m
mark_is m other e =
    sym (mark_back other) ∙ ap mark_of (sym (eqb-true (mark_number m) (mark_number other) e)) ∙ mark_back m

pub is_mark_only : (m : Mark) (token : Lexeme) → is_mark m token ≡ true → token ≡ lexeme.Mark m
is_mark_only m (lexeme.Name text) e = cc
is_mark_only m (lexeme.Number n) e = cc
is_mark_only m (lexeme.Mark other) e = ap (λ (k : Mark). lexeme.Mark k) (mark_is m other e)

pub is_word_only : (word : List ℕ) (token : Lexeme) → is_named (bytes_eq word) token ≡ true → token ≡ lexeme.Name word
is_word_only word (lexeme.Name text) e = ap (λ (t : List ℕ). lexeme.Name t) (text_is word text e)
is_word_only word (lexeme.Number n) e = cc
is_word_only word (lexeme.Mark m) e = cc

-- The one token of a class. A class of words that stand at most once has one too, but what is known besides of a token of
-- it, that the word isn't among the earlier ones, is needed as well: so `by_new` says it.
abbrev pub only_token : Class → Option Lexeme
only_token (class.Mark m) = Some (lexeme.Mark m)
only_token (class.Word k) = Some (lexeme.Name (keyword_text k))
only_token class.Name = None
only_token class.Number = None
only_token class.ExpressionName = None
only_token (class.NewTail k) = None
only_token (class.NewTableAttr k) = None
only_token (class.NewStateAttr k) = None
only_token class.NewLabel = None
only_token (class.Infix least most) = None
only_token (class.Prefix least) = None
only_token class.GroupToken = None
only_token class.GroupOpen = Some (lexeme.Mark mark.BraceOpen)
only_token class.GroupClose = Some (lexeme.Mark mark.BraceClose)

some_is : (kept other token : Lexeme) → Some other ≡ Some kept → token ≡ other → token ≡ kept
some_is kept other token e f = cc

pub only_is : (c : Class) (kept token : Lexeme) (built : Built) → only_token c ≡ Some kept → accepts c token built ≡ true → token ≡ kept
only_is (class.Mark m) kept token built e ok = some_is kept (lexeme.Mark m) token e (is_mark_only m token ok)
only_is (class.Word k) kept token built e ok = some_is kept (lexeme.Name (keyword_text k)) token e (is_word_only (keyword_text k) token ok)
only_is class.Name kept token built e ok = cc
only_is class.Number kept token built e ok = cc
only_is class.ExpressionName kept token built e ok = cc
only_is (class.NewTail k) kept token built e ok = cc
only_is (class.NewTableAttr k) kept token built e ok = cc
only_is (class.NewStateAttr k) kept token built e ok = cc
only_is class.NewLabel kept token built e ok = cc
only_is (class.Infix least most) kept token built e ok = cc
only_is (class.Prefix least) kept token built e ok = cc
only_is class.GroupToken kept token built e ok = cc
only_is class.GroupOpen kept token built e ok = some_is kept (lexeme.Mark mark.BraceOpen) token e (is_mark_only mark.BraceOpen token ok)
only_is class.GroupClose kept token built e ok = some_is kept (lexeme.Mark mark.BraceClose) token e (is_mark_only mark.BraceClose token ok)

abbrev pub fixed14 : Fixed grammar14
fixed14 = record { only = only_token; is_only = only_is }

-- What is shown of each name, number or new word is shown of each token that is accepted as one. `P` is mostly read off
-- the goal: `by_name _ (λ text. ..)`.

pub by_name : (P : Lexeme → Type 0) → ((text : List ℕ) → P (lexeme.Name text)) → (token : Lexeme) → is_named (λ text. true) token ≡ true → P token
by_name P f (lexeme.Name text) ok = f text
by_name P f (lexeme.Number n) ok = cc
by_name P f (lexeme.Mark m) ok = cc

-- a name that passes a test
pub by_named : (test : List ℕ → Bool) (P : Lexeme → Type 0) → ((text : List ℕ) → test text ≡ true → P (lexeme.Name text)) → (token : Lexeme) → is_named test token ≡ true → P token
by_named test P f (lexeme.Name text) ok = f text ok
by_named test P f (lexeme.Number n) ok = cc
by_named test P f (lexeme.Mark m) ok = cc

pub by_number : (P : Lexeme → Type 0) → ((n : Literal) → P (lexeme.Number n)) → (token : Lexeme) → is_number token ≡ true → P token
by_number P f (lexeme.Name text) ok = cc
by_number P f (lexeme.Number n) ok = f n
by_number P f (lexeme.Mark m) ok = cc

-- a word that stands not among these
pub by_new : (word : Keyword) (words : List (List ℕ)) (P : Lexeme → Type 0) → (is_among (keyword_text word) words ≡ false → P (keyword word)) → (token : Lexeme) → is_new (keyword_text word) words token ≡ true → P token
by_new word words P f token ok =
    let text = keyword_text word in
    subst P (sym (is_word_only text token (left_true (is_named (bytes_eq text) token) (not (is_among text words)) ok)))
    (f (not_true (is_among text words) (right_true (is_named (bytes_eq text) token) (not (is_among text words)) ok)))
