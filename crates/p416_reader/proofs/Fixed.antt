-- The classes that have one token, and what a token of another class is.
use Rattle.std.proofs.Common.{◌≡◌, ℕ, zero, suc, Bool, true, false, ◌&&◌, nat_eq, List, [], ◌∷◌, Option, Some, None, refl, sym, ap, subst, ◌∙◌, bytes_eq}
use Rattle.std.proofs.lemmas.Bool.{eqb-true}
use Rattle.predictive_parser.proofs.Meanings.{Fixed}
use Rattle.p416_syntax.specs.declared.keyword.Keyword16.{Keyword16}
use Rattle.p416_syntax.specs.declared.keyword.Keyword16.TheVariants as key
use Rattle.p416_syntax.specs.declared.lexeme.Annotation16.{Annotation16}
use Rattle.p416_syntax.specs.declared.lexeme.Annotation16.TheVariants as note_of
use Rattle.p416_syntax.specs.declared.lexeme.Include16.{Include16}
use Rattle.p416_syntax.specs.declared.lexeme.Include16.TheVariants as include
use Rattle.p416_syntax.specs.declared.lexeme.Literal16.{Literal16}
use Rattle.p416_syntax.specs.declared.mark.Mark16.{Mark16}
use Rattle.p416_syntax.specs.declared.mark.Mark16.TheVariants as mark_of
use Rattle.p416_syntax.specs.Keywords.{is_reserved16}
use Rattle.p416_syntax.specs.Tokens.{Seen16, id, quoted, number, mark, string, annotation, include_line, joined, opens}
use Rattle.p416_reader.specs.declared.symbols.Class.{Class}
use Rattle.p416_reader.specs.declared.symbols.Class.TheVariants as class
use Rattle.p416_reader.specs.declared.built.Built.{Built}
use Rattle.p416_reader.specs.internal.Classes.{mark_number, word_number, note_number, include_number, known_text, is_mark, is_quoted, is_note, is_include, is_id, is_number, is_string, is_opens, is_word, accepts}
use Rattle.p416_reader.specs.internal.Rows.{grammar16}
use Rattle.p416_reader.proofs.Lists.{text_is, left_true, right_true, not_true}

-- marks and words are known by their numbers

at_place_mark : List Mark16 → ℕ → Mark16
at_place_mark [] n = mark_of.Question
at_place_mark (m ∷ ms) zero = m
at_place_mark (m ∷ ms) (suc n) = at_place_mark ms n

mark_numbered : ℕ → Mark16
mark_numbered n = at_place_mark (mark_of.BraceOpen ∷ mark_of.BraceClose ∷ mark_of.ParenOpen ∷ mark_of.ParenClose ∷ mark_of.BracketOpen ∷ mark_of.BracketClose ∷ mark_of.Semicolon ∷ mark_of.Colon ∷ mark_of.Comma ∷ mark_of.Dot ∷ mark_of.DotDot ∷ mark_of.Assign ∷ mark_of.Less ∷ mark_of.Greater ∷ mark_of.LessEqual ∷ mark_of.GreaterEqual ∷ mark_of.Equal ∷ mark_of.NotEqual ∷ mark_of.ShiftLeft ∷ mark_of.Plus ∷ mark_of.PlusPlus ∷ mark_of.Minus ∷ mark_of.SaturatingPlus ∷ mark_of.SaturatingMinus ∷ mark_of.Star ∷ mark_of.Ampersand ∷ mark_of.AndAnd ∷ mark_of.Mask ∷ mark_of.Bar ∷ mark_of.OrOr ∷ mark_of.Caret ∷ mark_of.Tilde ∷ mark_of.Bang ∷ mark_of.Question ∷ []) n

mark_back : (m : Mark16) → mark_numbered (mark_number m) ≡ m
unfolding mark_numbered at_place_mark
mark_back mark_of.BraceOpen = refl
mark_back mark_of.BraceClose = refl
mark_back mark_of.ParenOpen = refl
mark_back mark_of.ParenClose = refl
mark_back mark_of.BracketOpen = refl
mark_back mark_of.BracketClose = refl
mark_back mark_of.Semicolon = refl
mark_back mark_of.Colon = refl
mark_back mark_of.Comma = refl
mark_back mark_of.Dot = refl
mark_back mark_of.DotDot = refl
mark_back mark_of.Assign = refl
mark_back mark_of.Less = refl
mark_back mark_of.Greater = refl
mark_back mark_of.LessEqual = refl
mark_back mark_of.GreaterEqual = refl
mark_back mark_of.Equal = refl
mark_back mark_of.NotEqual = refl
mark_back mark_of.ShiftLeft = refl
mark_back mark_of.Plus = refl
mark_back mark_of.PlusPlus = refl
mark_back mark_of.Minus = refl
mark_back mark_of.SaturatingPlus = refl
mark_back mark_of.SaturatingMinus = refl
mark_back mark_of.Star = refl
mark_back mark_of.Ampersand = refl
mark_back mark_of.AndAnd = refl
mark_back mark_of.Mask = refl
mark_back mark_of.Bar = refl
mark_back mark_of.OrOr = refl
mark_back mark_of.Caret = refl
mark_back mark_of.Tilde = refl
mark_back mark_of.Bang = refl
mark_back mark_of.Question = refl

pub mark_is : (m other : Mark16) → nat_eq (mark_number m) (mark_number other) ≡ true → other ≡ m
mark_is m other e = sym (mark_back other) ∙ ap mark_numbered (sym (eqb-true (mark_number m) (mark_number other) e)) ∙ mark_back m

at_place_word : List Keyword16 → ℕ → Keyword16
at_place_word [] n = key.Error
at_place_word (m ∷ ms) zero = m
at_place_word (m ∷ ms) (suc n) = at_place_word ms n

word_numbered : ℕ → Keyword16
word_numbered n = at_place_word (key.V1Switch ∷ key.Main ∷ key.Header ∷ key.Bit ∷ key.Struct ∷ key.Parser ∷ key.Control ∷ key.Apply ∷ key.Bool ∷ key.In ∷ key.Out ∷ key.InOut ∷ key.Counter ∷ key.DirectCounter ∷ key.Register ∷ key.Meter ∷ key.Action ∷ key.Table ∷ key.Key ∷ key.Actions ∷ key.NoAction ∷ key.Size ∷ key.Counters ∷ key.DefaultAction ∷ key.State ∷ key.Transition ∷ key.Select ∷ key.Accept ∷ key.Reject ∷ key.Default ∷ key.Underscore ∷ key.If ∷ key.Else ∷ key.Switch ∷ key.ActionRun ∷ key.True ∷ key.False ∷ key.Error ∷ []) n

word_back : (m : Keyword16) → word_numbered (word_number m) ≡ m
unfolding word_numbered at_place_word
word_back key.V1Switch = refl
word_back key.Main = refl
word_back key.Header = refl
word_back key.Bit = refl
word_back key.Struct = refl
word_back key.Parser = refl
word_back key.Control = refl
word_back key.Apply = refl
word_back key.Bool = refl
word_back key.In = refl
word_back key.Out = refl
word_back key.InOut = refl
word_back key.Counter = refl
word_back key.DirectCounter = refl
word_back key.Register = refl
word_back key.Meter = refl
word_back key.Action = refl
word_back key.Table = refl
word_back key.Key = refl
word_back key.Actions = refl
word_back key.NoAction = refl
word_back key.Size = refl
word_back key.Counters = refl
word_back key.DefaultAction = refl
word_back key.State = refl
word_back key.Transition = refl
word_back key.Select = refl
word_back key.Accept = refl
word_back key.Reject = refl
word_back key.Default = refl
word_back key.Underscore = refl
word_back key.If = refl
word_back key.Else = refl
word_back key.Switch = refl
word_back key.ActionRun = refl
word_back key.True = refl
word_back key.False = refl
word_back key.Error = refl

pub word_is : (m other : Keyword16) → nat_eq (word_number m) (word_number other) ≡ true → other ≡ m
word_is m other e = sym (word_back other) ∙ ap word_numbered (sym (eqb-true (word_number m) (word_number other) e)) ∙ word_back m

note_is : (m other : Annotation16) → nat_eq (note_number m) (note_number other) ≡ true → other ≡ m
note_is note_of.Name note_of.Name e = refl
note_is note_of.FieldList note_of.FieldList e = refl
note_is note_of.Name note_of.FieldList e = cc
note_is note_of.FieldList note_of.Name e = cc

include_is : (m other : Include16) → nat_eq (include_number m) (include_number other) ≡ true → other ≡ m
include_is include.Core include.Core e = refl
include_is include.V1Model include.V1Model e = refl
include_is include.Core include.V1Model e = cc
include_is include.V1Model include.Core e = cc

pub is_mark_only : (other : Mark16) (token : Seen16) → is_mark other token ≡ true → token ≡ mark other
is_mark_only other (id text) e = cc
is_mark_only other (quoted k) e = cc
is_mark_only other (number n) e = cc
is_mark_only other (mark m) e = ap mark (mark_is other m e)
is_mark_only other (string text) e = cc
is_mark_only other (annotation a) e = cc
is_mark_only other (include_line i) e = cc
is_mark_only other joined e = cc
is_mark_only other opens e = cc

pub is_quoted_only : (word : Keyword16) (token : Seen16) → is_quoted word token ≡ true → token ≡ quoted word
is_quoted_only word (id text) e = cc
is_quoted_only word (quoted k) e = ap quoted (word_is word k e)
is_quoted_only word (number n) e = cc
is_quoted_only word (mark m) e = cc
is_quoted_only word (string text) e = cc
is_quoted_only word (annotation a) e = cc
is_quoted_only word (include_line i) e = cc
is_quoted_only word joined e = cc
is_quoted_only word opens e = cc

pub is_note_only : (other : Annotation16) (token : Seen16) → is_note other token ≡ true → token ≡ annotation other
is_note_only other (id text) e = cc
is_note_only other (quoted k) e = cc
is_note_only other (number n) e = cc
is_note_only other (mark m) e = cc
is_note_only other (string text) e = cc
is_note_only other (annotation a) e = ap annotation (note_is other a e)
is_note_only other (include_line i) e = cc
is_note_only other joined e = cc
is_note_only other opens e = cc

pub is_include_only : (other : Include16) (token : Seen16) → is_include other token ≡ true → token ≡ include_line other
is_include_only other (id text) e = cc
is_include_only other (quoted k) e = cc
is_include_only other (number n) e = cc
is_include_only other (mark m) e = cc
is_include_only other (string text) e = cc
is_include_only other (annotation a) e = cc
is_include_only other (include_line i) e = ap include_line (include_is other i e)
is_include_only other joined e = cc
is_include_only other opens e = cc

pub is_known_only : (known : List ℕ) (token : Seen16) → is_id (bytes_eq known) token ≡ true → token ≡ id known
is_known_only known (id text) e = ap id (text_is known text e)
is_known_only known (quoted k) e = cc
is_known_only known (number n) e = cc
is_known_only known (mark m) e = cc
is_known_only known (string text) e = cc
is_known_only known (annotation a) e = cc
is_known_only known (include_line i) e = cc
is_known_only known joined e = cc
is_known_only known opens e = cc

pub is_opens_only : (token : Seen16) → is_opens token ≡ true → token ≡ opens
is_opens_only (id text) e = cc
is_opens_only (quoted k) e = cc
is_opens_only (number n) e = cc
is_opens_only (mark m) e = cc
is_opens_only (string text) e = cc
is_opens_only (annotation a) e = cc
is_opens_only (include_line i) e = cc
is_opens_only joined e = cc
is_opens_only opens e = refl

-- the one token of a class, where nothing else is known of it
abbrev pub only_token : Class → Option Seen16
only_token (class.Mark m) = Some (mark m)
only_token (class.Word k) = Some (quoted k)
only_token (class.Known k) = Some (id (known_text k))
only_token class.Name = None
only_token class.AnyWord = None
only_token class.Number = None
only_token class.String = None
only_token (class.At a) = Some (annotation a)
only_token class.NewNameNote = None
only_token (class.Include i) = Some (include_line i)
only_token class.Opens = Some (opens)
only_token (class.NewProperty k) = None
only_token class.CallEnd = None
only_token class.VarName = None
only_token class.Else = None
only_token (class.Infix least most) = None
only_token (class.Question least most) = None

some_is : (kept other token : Seen16) → Some other ≡ Some kept → token ≡ other → token ≡ kept
some_is kept other token e f = cc

pub only_is : (c : Class) (kept token : Seen16) (built : Built) → only_token c ≡ Some kept → accepts c token built ≡ true → token ≡ kept
only_is (class.Mark m) kept token built e ok = some_is kept (mark m) token e (is_mark_only m token ok)
only_is (class.Word k) kept token built e ok = some_is kept (quoted k) token e (is_quoted_only k token ok)
only_is (class.Known k) kept token built e ok = some_is kept (id (known_text k)) token e (is_known_only (known_text k) token ok)
only_is class.Name kept token built e ok = cc
only_is class.AnyWord kept token built e ok = cc
only_is class.Number kept token built e ok = cc
only_is class.String kept token built e ok = cc
only_is (class.At a) kept token built e ok = some_is kept (annotation a) token e (is_note_only a token ok)
only_is class.NewNameNote kept token built e ok = cc
only_is (class.Include i) kept token built e ok = some_is kept (include_line i) token e (is_include_only i token ok)
only_is class.Opens kept token built e ok = some_is kept (opens) token e (is_opens_only token ok)
only_is (class.NewProperty k) kept token built e ok = cc
only_is class.CallEnd kept token built e ok = cc
only_is class.VarName kept token built e ok = cc
only_is class.Else kept token built e ok = cc
only_is (class.Infix least most) kept token built e ok = cc
only_is (class.Question least most) kept token built e ok = cc

abbrev pub fixed16 : Fixed grammar16
fixed16 = record { only = only_token; is_only = only_is }

-- What is shown of each name, number or new word is shown of each token that is accepted as one. `P` is mostly read off
-- the goal: `by_name _ (λ text. ..)`.

pub by_name : (P : Seen16 → Type 0) → ((text : List ℕ) → P (id text)) → (token : Seen16) → is_id (λ text. true) token ≡ true → P token
by_name P f (id text) ok = f text
by_name P f (quoted k) ok = cc
by_name P f (number n) ok = cc
by_name P f (mark m) ok = cc
by_name P f (string text) ok = cc
by_name P f (annotation a) ok = cc
by_name P f (include_line i) ok = cc
by_name P f joined ok = cc
by_name P f opens ok = cc

pub by_number : (P : Seen16 → Type 0) → ((n : Literal16) → P (number n)) → (token : Seen16) → is_number token ≡ true → P token
by_number P f (id text) ok = cc
by_number P f (quoted k) ok = cc
by_number P f (number n) ok = f n
by_number P f (mark m) ok = cc
by_number P f (string text) ok = cc
by_number P f (annotation a) ok = cc
by_number P f (include_line i) ok = cc
by_number P f joined ok = cc
by_number P f opens ok = cc

pub by_string : (P : Seen16 → Type 0) → ((text : List ℕ) → P (string text)) → (token : Seen16) → is_string token ≡ true → P token
by_string P f (id text) ok = cc
by_string P f (quoted k) ok = cc
by_string P f (number n) ok = cc
by_string P f (mark m) ok = cc
by_string P f (string text) ok = f text
by_string P f (annotation a) ok = cc
by_string P f (include_line i) ok = cc
by_string P f joined ok = cc
by_string P f opens ok = cc

-- a token of a class with one token, of which more is known
pub by_test : (kept : Seen16) (test : Seen16 → Bool) (more : Bool) (P : Seen16 → Type 0) → ((token : Seen16) → test token ≡ true → token ≡ kept) → (more ≡ true → P kept) → (token : Seen16) → (test token && more) ≡ true → P token
by_test kept test more P only f token ok =
    subst P (sym (only token (left_true (test token) more ok))) (f (right_true (test token) more ok))

pub by_name_where : (more : Bool) (P : Seen16 → Type 0) → ((text : List ℕ) → more ≡ true → P (id text)) → (token : Seen16) → (is_id (λ text. true) token && more) ≡ true → P token
by_name_where more P f token ok = by_name P (λ text. f text (right_true (is_id (λ text. true) token) more ok)) token (left_true (is_id (λ text. true) token) more ok)

-- any word: a name that isn't reserved, or a reserved word
pub by_word : (P : Seen16 → Type 0) → ((text : List ℕ) → is_reserved16 text ≡ false → P (id text)) → ((k : Keyword16) → P (quoted k)) → (token : Seen16) → is_word token ≡ true → P token
by_word P f g (id text) ok = f text (not_true (is_reserved16 text) ok)
by_word P f g (quoted k) ok = g k
by_word P f g (number n) ok = cc
by_word P f g (mark m) ok = cc
by_word P f g (string text) ok = cc
by_word P f g (annotation a) ok = cc
by_word P f g (include_line i) ok = cc
by_word P f g joined ok = cc
by_word P f g opens ok = cc
