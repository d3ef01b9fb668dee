-- What lies between the tokens of a text: trivia. Each kind of it is told by its own octets; what a language takes as
-- trivia it says itself, of these kinds and of its own.
use Rattle.std.specs.Prelude.{◌≡◌, ◌<◌, ◌≤◌, ◌⊎◌, ◌+◌, ◌-◌, ◌∷◌, ◌++◌, ℕ, List, [], length, take, drop, codes, slice_index, IsTrue}
use Rattle.std.specs.List.{AllPass, suffix_len}
use Rattle.token_division.specs.declared.division.Token.{Token}
use Rattle.token_division.specs.Octets.{is_blank, is_on_line}
use Rattle.token_division.specs.Pieces.{begins}

-- the piece is one blank
abbrev pub IsBlank : List ℕ → Type 0
IsBlank piece = (octet : ℕ) × (piece ≡ octet ∷ []) × IsTrue (is_blank octet)

-- `//`, and no line feed behind it
abbrev pub IsLineComment : List ℕ → Type 0
IsLineComment piece = IsTrue (begins piece (codes "//")) × AllPass is_on_line piece

-- these octets stand somewhere in the text
abbrev pub StandsIn : List ℕ → List ℕ → Type 0
StandsIn octets text = (at : ℕ) × IsTrue (begins (drop at text) octets)

-- `/*`, what stands inside, and `*/`, which is the first `*/` behind the `/*`
abbrev pub IsBlockComment : List ℕ → Type 0
IsBlockComment piece =
    (inside : List ℕ) × (piece ≡ codes "/*" ++ (inside ++ codes "*/"))
    × (StandsIn (codes "*/") (inside ++ codes "*") → ⊥)

-- the text begins with a `/*` behind which no `*/` stands
abbrev pub BeginsOpenComment : List ℕ → Type 0
BeginsOpenComment text = IsTrue (begins text (codes "/*")) × (StandsIn (codes "*/") (drop 2 text) → ⊥)

-- a line ends before these octets: they begin with a line feed, or there are none
abbrev pub EndsLine : List ℕ → Type 0
EndsLine behind = (behind ≡ []) ⊎ (slice_index behind 0 ≡ 10)

-- Nothing but blanks stands behind the last line feed of these octets: the blanks at their end are no fewer than the
-- octets behind it.
abbrev pub IsFirstOnLine : List ℕ → Type 0
IsFirstOnLine before = suffix_len is_on_line before ≤ suffix_len is_blank before

-- What a language takes as a piece of trivia, by the octets of the text before the piece, its own octets, and those
-- behind it.
abbrev pub Trivia : Type 1
Trivia = List ℕ → List ℕ → List ℕ → Type 0

-- the octets of the text from the octet of one number up to that of another
abbrev pub span : ℕ → ℕ → List ℕ → List ℕ
span from to text = take (to - from) (drop from text)

-- pieces of trivia that end at these octets, one behind the other, reach from one octet to another
abbrev pub TriviaReach : Trivia → List ℕ → List ℕ → ℕ → ℕ → Type 0
TriviaReach trivia text [] from to = from ≡ to
TriviaReach trivia text (end ∷ ends) from to =
    (from < end) × trivia (take from text) (span from end text) (drop end text) × TriviaReach trivia text ends end to

-- trivia and nothing else stands from one octet up to another
abbrev pub IsTriviaFrom : Trivia → List ℕ → ℕ → ℕ → Type 0
IsTriviaFrom trivia text from to = (ends : List ℕ) × TriviaReach trivia text ends from to

-- these tokens stand from one octet up to another, and before, between and behind them trivia and nothing else
abbrev pub HasTriviaBetween : {K : Type 0} → Trivia → List ℕ → ℕ → List (Token K) → ℕ → Type 0
HasTriviaBetween trivia text from [] to = IsTriviaFrom trivia text from to
HasTriviaBetween trivia text from (token ∷ tokens) to =
    IsTriviaFrom trivia text from token.from × HasTriviaBetween trivia text token.to tokens to

-- the text is these tokens, and before the first, between two of them and behind the last trivia and nothing else
abbrev pub IsTokensAndTrivia : {K : Type 0} → Trivia → List ℕ → List (Token K) → Type 0
IsTokensAndTrivia trivia text tokens = HasTriviaBetween trivia text 0 tokens (length text)
