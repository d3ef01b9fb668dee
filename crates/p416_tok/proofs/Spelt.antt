-- The tokens of a text are ones that a text can have.
use Rattle.std.proofs.Common.{◌≡◌, ℕ, zero, suc, ◌<◌, ◌≤◌, ◌+◌, ◌-◌, ◌^◌, Bool, true, List, [], ◌∷◌, ◌++◌, length, get_or, take, drop, map, refl, sym, ap, ◌∙◌, subst, arith, Option, Some, None, Result, Ok, Err}
use Rattle.std.specs.Prelude.{All, nat_le, nat_lt, ◌&&◌}
use Rattle.std.specs.List.{list_all}
use Rattle.std.proofs.lemmas.List.{take_at, length-append}
use Rattle.std.proofs.lemmas.Bool.{and_from}
use Rattle.std.proofs.lemmas.Bool.Decides.{nat_tests}
use Rattle.token_division.specs.declared.division.Token.{Token}
use Rattle.p416_syntax.specs.SpeltLexemes.{is_identifier16, is_width16, is_spelt_lexeme16}
use Rattle.p416_tok.specs.declared.kind.TokenKind16.{TokenKind16}
use Rattle.p416_tok.specs.declared.kind.TokenKind16.TheVariants as kind
use Rattle.p416_tok.specs.Spelled.{IsNumber, IsString, IsSpelled}
use Rattle.p416_tok.specs.Lexemes.{inner, lexeme_as, lexeme_in, lexemes16}

at_most : (a b : ℕ) → a ≤ b → nat_le a b ≡ true
at_most a b h = grind (arith, nat_tests)

below : (a b : ℕ) → a < b → nat_lt a b ≡ true
below a b h = grind (arith, nat_tests)

number_fits : (width : Option ℕ) (value : ℕ) (octets : List ℕ) → IsNumber width value octets → (is_width16 width && nat_lt value (2 ^ 128)) ≡ true
number_fits None value octets h = and_from true (nat_lt value (2 ^ 128)) refl (below value (2 ^ 128) (omega (arith, h.1)))
number_fits (Some width) value octets h =
    and_from (nat_le 1 width && nat_le width 128) (nat_lt value (2 ^ 128))
    (and_from (nat_le 1 width) (nat_le width 128) (at_most 1 width h.width_fits.0) (at_most width 128 h.width_fits.1))
    (below value (2 ^ 128) (omega (arith, h.number_fits)))

string_spelt : (octets : List ℕ) → IsString octets → is_identifier16 (inner octets) ≡ true
string_spelt octets h =
    let name = h.0 in
    let size : length (34 ∷ (name ++ 34 ∷ [])) - 2 ≡ length name = omega (arith, length-append name (34 ∷ [])) in
    ap (λ xs. is_identifier16 (inner xs)) h.1 ∙ ap (λ n. is_identifier16 (take n (name ++ 34 ∷ []))) size
    ∙ ap is_identifier16 (take_at name (34 ∷ []) (length name) refl) ∙ h.2

spelt_token : (k : TokenKind16) (text : List ℕ) (size : ℕ) → IsSpelled k text size → is_spelt_lexeme16 (lexeme_as k (take size text)) ≡ true
spelt_token kind.Name text size h = h.0
spelt_token (kind.Number n) text size h = number_fits n.width n.value (take size text) h
spelt_token (kind.Mark m) text size h = refl
spelt_token kind.Quoted text size h = string_spelt (take size text) h
spelt_token (kind.At a) text size h = refl
spelt_token (kind.Include i) text size h = refl

pub all_spelt : (text : List ℕ) (tokens : List (Token TokenKind16)) → All (λ t. IsSpelled t.kind (drop t.from text) (t.to - t.from)) tokens → list_all is_spelt_lexeme16 (lexemes16 text tokens) ≡ true
all_spelt text [] h = refl
all_spelt text (t ∷ tokens) h =
    and_from (is_spelt_lexeme16 (lexeme_in text t)) (list_all is_spelt_lexeme16 (lexemes16 text tokens)) (spelt_token t.kind (drop t.from text) (t.to - t.from) (h 0 t (omega arith)))
    (all_spelt text tokens (λ k d l. h (suc k) d (omega arith)))
