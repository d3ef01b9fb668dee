-- The tokens of a text are ones that a text can have.
use Rattle.std.proofs.Common.{◌≡◌, ℕ, zero, suc, ◌<◌, ◌≤◌, ◌+◌, ◌-◌, ◌^◌, Bool, true, List, [], ◌∷◌, ◌++◌, length, get_or, take, drop, map, refl, sym, ap, ◌∙◌, subst, arith, append_assoc, Option, Some, None, Result, Ok, Err}
use Rattle.std.specs.Prelude.{All, nat_le, nat_lt, IfOk}
use Rattle.std.specs.List.{list_all}
use Rattle.std.proofs.Math.Nat.{mod-lt}
use Rattle.std.proofs.lemmas.Nat.{pow_pos}
use Rattle.std.proofs.lemmas.Bool.{and_from}
use Rattle.std.proofs.lemmas.Bool.Decides.{nat_tests}
use Rattle.token_division.specs.declared.division.Token.{Token}
use Rattle.token_division.specs.Division.{division}
use Rattle.p414_syntax.specs.SpeltLexemes.{fits_in, is_spelt_lexeme}
use Rattle.p414_tok.specs.declared.kind.TokenKind14.{TokenKind14}
use Rattle.p414_tok.specs.declared.kind.TokenKind14.TheVariants as kind
use Rattle.p414_tok.specs.Front.{front}
use Rattle.p414_tok.specs.Spelled.{IsNumber, IsSpelled}
use Rattle.token_division.proofs.Whole.{pieces_of}
use Rattle.p414_tok.proofs.Spelling.{tokens_spelled}
use Rattle.p414_tok.specs.Lexemes.{lexeme_as, lexeme_in, lexemes}

at_most : (a b : ℕ) → a ≤ b → nat_le a b ≡ true
at_most a b h = grind (arith, nat_tests)

below : (a b : ℕ) → a < b → nat_lt a b ≡ true
below a b h = grind (arith, nat_tests)

number_fits : (width : Option ℕ) (value : ℕ) (octets : List ℕ) → IsNumber width value octets → fits_in width value ≡ true
number_fits None value octets h = below value (2 ^ 128) (omega (arith, h.1))
number_fits (Some width) value octets h =
    and_from _ _ (at_most 1 width h.width_fits.0)
    (and_from _ _ (at_most width 128 h.width_fits.1) (below value (2 ^ width) (subst (λ v. v < 2 ^ width) (sym h.value_is) (mod-lt h.written (pow_pos width)))))

spelt_token : (k : TokenKind14) (text : List ℕ) (size : ℕ) → IsSpelled k text size → is_spelt_lexeme (lexeme_as k (take size text)) ≡ true
spelt_token kind.Name text size h = h.0
spelt_token (kind.Number n) text size h = number_fits n.width n.value (take size text) h
spelt_token (kind.Mark m) text size h = refl

pub all_spelt : (text : List ℕ) (tokens : List (Token TokenKind14)) → All (λ t. IsSpelled t.kind (drop t.from text) (t.to - t.from)) tokens → list_all is_spelt_lexeme (lexemes text tokens) ≡ true
all_spelt text [] h = refl
all_spelt text (t ∷ tokens) h =
    and_from (is_spelt_lexeme (lexeme_in text t)) (list_all is_spelt_lexeme (lexemes text tokens)) (spelt_token t.kind (drop t.from text) (t.to - t.from) (h 0 t (omega arith)))
    (all_spelt text tokens (λ k d l. h (suc k) d (omega arith)))

-- The tokens of every text that is divided are ones that a text can have.
pub division_spelt : (text : List ℕ) (tokens : List (Token TokenKind14)) → division front text ≡ Ok tokens → list_all is_spelt_lexeme (lexemes text tokens) ≡ true
division_spelt text tokens e = all_spelt text tokens (tokens_spelled text tokens (pieces_of front text tokens e))
