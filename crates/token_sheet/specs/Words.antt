-- The words of a text: its tokens without their places, each by its token class and its octets (this project's own).
use Rattle.std.specs.Prelude.{◌≡◌, ◌-◌, ℕ, Bool, true, false, nat_eq, ◌&&◌, List, [], ◌∷◌, ◌++◌, take, drop, Option, Some, None, Result, Ok, Err}
use Rattle.p4x_fault.specs.declared.Fault.{Fault}
use Rattle.token_division.specs.declared.division.Token.{Token}
use Rattle.token_division.specs.Division.{Front, division}

-- A token without its place. It is joined where the token behind it touches it, and the language tells such a pair from one
-- that doesn't touch.
pub record Word (K : Type 0) : Type 0 where
  pub kind : K
  pub octets : List ℕ
  pub is_joined : Bool

-- a word that isn't joined, and one that is
abbrev pub word : {K : Type 0} → K → List ℕ → Word K
word kind octets = record { kind = kind; octets = octets; is_joined = false }

abbrev pub joined : {K : Type 0} → K → List ℕ → Word K
joined kind octets = record { kind = kind; octets = octets; is_joined = true }

-- of two token classes, whether the language tells it where a token of the second touches one of the first
abbrev pub Meets : Type 0 → Type 0
Meets K = K → K → Bool

abbrev pub first_of : {K : Type 0} → List (Token K) → Option (Token K)
first_of [] = None
first_of (token ∷ tokens) = Some token

-- the next token touches the token, and the language tells it
abbrev pub touches : {K : Type 0} → Meets K → Token K → Option (Token K) → Bool
touches meets token None = false
touches meets token (Some next) = meets token.kind next.kind && nat_eq token.to next.from

-- the word of a token of the text
abbrev pub word_of : {K : Type 0} → List ℕ → Token K → Bool → Word K
word_of text token is_joined =
    record { kind = token.kind; octets = take (token.to - token.from) (drop token.from text); is_joined = is_joined }

-- the words of tokens of the text
abbrev pub words_in : {K : Type 0} → Meets K → List ℕ → List (Token K) → List (Word K)
words_in meets text [] = []
words_in meets text (token ∷ tokens) = word_of text token (touches meets token (first_of tokens)) ∷ words_in meets text tokens

-- The text is divided into tokens, and these are their words.
pub record IsDividedInto {K : Type 0} (front : Front K) (meets : Meets K) (text : List ℕ) (words : List (Word K)) : Type 0 where
  pub tokens : List (Token K)
  pub divided : division front text ≡ Ok tokens
  pub are : words_in meets text tokens ≡ words

abbrev pub words_found : {K : Type 0} → Meets K → List ℕ → Result (List (Token K)) Fault → List (Word K)
words_found meets text (Ok tokens) = words_in meets text tokens
words_found meets text (Err fault) = []

-- what is written on a sheet: the text and a line feed behind it
abbrev pub sheet_text : List ℕ → List ℕ
sheet_text text = text ++ 10 ∷ []

-- the words of what is written on a sheet
abbrev pub sheet_words : {K : Type 0} → Front K → Meets K → List ℕ → List (Word K)
sheet_words front meets text = words_found meets (sheet_text text) (division front (sheet_text text))
