-- The tokens that the grammar sees are as many as the text has, each at its place.
use Rattle.std.proofs.Common.{◌≡◌, ℕ, zero, suc, ◌+◌, ◌<◌, ◌≤◌, List, [], ◌∷◌, length, Some, None, refl, sym, ap, ◌∙◌, arith}
use Rattle.std.proofs.lemmas.Option.{slice_get_read}
use Rattle.std.specs.Prelude.{slice_get, slice_index_or}
use Rattle.token_division.specs.declared.division.Token.{Token}
use Rattle.p416_tok.specs.declared.kind.TokenKind16.{TokenKind16}
use Rattle.p416_reader.specs.declared.token.TokenView.{TokenView}
use Rattle.p416_reader.specs.internal.Lexemes.{seen_of, IsAtHand}
use Rattle.p416_reader.specs.Seen.{Tokens, seen_at, seen_from, seen16}

pub as_many : (text : List ℕ) (all : Tokens) (from : ℕ) (tokens : Tokens) → length (seen_from text all from tokens) ≡ length tokens
as_many text all from [] = refl
as_many text all from (token ∷ tokens) = ap suc (as_many text all (suc from) tokens)

-- the token at a place
seen_there : (text : List ℕ) (all : Tokens) (from : ℕ) (tokens : Tokens) (i place : ℕ) (token : Token TokenKind16) → slice_get tokens i ≡ Some token → place ≡ from + i
    → slice_get (seen_from text all from tokens) i ≡ Some (seen_at text all place token)
seen_there text all from [] i place token h e = absurd (let bad : None ≡ Some token = h in cc)
seen_there text all from (first ∷ tokens) zero place token h e =
    let same : first ≡ token = (let some : Some first ≡ Some token = h in cc) in
    let here : place ≡ from = omega (arith, e) in
    cc
seen_there text all from (first ∷ tokens) (suc i) place token h e = seen_there text all (suc from) tokens i place token h (omega (arith, e))

-- it is seen as the view says
pub there_as : (text : List ℕ) (all : Tokens) (place : ℕ) (token : Token TokenKind16) (view : TokenView) → token ≡ slice_index_or all place token → seen_of view ≡ seen_at text all place token → IsAtHand text all place view
there_as text all place token view h e = λ lt. seen_there text all 0 all place place token (slice_get_read all (length all) place token refl lt h) (omega arith) ∙ ap Some (sym e)

missing : (all : Tokens) (place : ℕ) → slice_get all place ≡ None → length all ≤ place
missing [] place h = omega arith
missing (token ∷ all) zero h = absurd (let bad : Some token ≡ None = h in cc)
missing (token ∷ all) (suc i) h = let rest : length all ≤ i = missing all i h in omega (arith, rest)

-- where there is none, any view will do
pub none_as : (text : List ℕ) (all : Tokens) (place : ℕ) (view : TokenView) → slice_get all place ≡ None → IsAtHand text all place view
none_as text all place view h = λ lt. let past : length all ≤ place = missing all place h in absurd (omega (arith, past, lt))

-- the token at hand is that of its place
pub at_hand : (text : List ℕ) (all : Tokens) (place : ℕ) (view : TokenView) → IsAtHand text all place view → place < length (seen16 text all) → slice_get (seen16 text all) place ≡ Some (seen_of view)
at_hand text all place view h lt = h (let many : length (seen16 text all) ≡ length all = as_many text all 0 all in omega (arith, many, lt))
