-- A token as it lies in the text, as the grammar sees it.
use Rattle.std.specs.Prelude.{◌≡◌, ℕ, ◌<◌, List, length, Some, slice_get}
use Rattle.p416_syntax.specs.Tokens.{Seen16, id, quoted, number, mark, string, annotation, include_line, joined, opens}
use Rattle.p416_reader.specs.declared.token.TokenView.{TokenView}
use Rattle.p416_reader.specs.declared.token.TokenView.TheVariants as view
use Rattle.p416_reader.specs.Seen.{Tokens, seen16}

abbrev pub seen_of : TokenView → Seen16
seen_of (view.Name octets) = id octets.now
seen_of (view.Word word) = quoted word
seen_of (view.Number n) = number n.now
seen_of (view.Mark m) = mark m
seen_of (view.String octets) = string octets.now
seen_of (view.At a) = annotation a
seen_of (view.Include i) = include_line i
seen_of view.Joined = joined
seen_of view.Opens = opens

-- the token at this place, if there is one, is as the view says
abbrev pub IsAtHand : List ℕ → Tokens → ℕ → TokenView → Type 0
IsAtHand text tokens place token = place < length tokens → slice_get (seen16 text tokens) place ≡ Some (seen_of token)
