-- A text is divided into no more tokens than it has octets: a token begins at an octet, and no two at one.
use Rattle.std.proofs.Common.{◌≡◌, ℕ, zero, suc, ◌-◌, ◌≤◌, Bool, true, List, [], ◌∷◌, ◌++◌, length, refl, ap, arith}
use Rattle.std.specs.Prelude.{Result, Ok, Err}
use Rattle.std.proofs.lemmas.List.{length-append, length-map}
use Rattle.p4x_fault.specs.declared.Fault.{Fault}
use Rattle.p4x_fault.specs.declared.Rule.{Rule}
use Rattle.token_division.specs.declared.division.Piece.{Piece}
use Rattle.token_division.specs.declared.division.Token.{Token}
use Rattle.token_division.specs.declared.division.What.{What}
use Rattle.token_division.specs.declared.division.What.TheVariants as what
use Rattle.token_division.specs.Division.{Front, first_after, token_of, behind, goes_on, divided}
use Rattle.p414_tok.specs.Front.{front as front14}
use Rattle.p414_tok.specs.Lexemes.{lexeme_in}
use Rattle.lower_laws_reading.specs.Laws.{TextsAreBrief}

module _ {K : Type 0} (front : Front K) where
  one_at_most : (before : List ℕ) (w : What K) (size : ℕ) → length (token_of before w size) ≤ 1
  one_at_most before what.Blank size = omega arith
  one_at_most before what.Skipped size = omega arith
  one_at_most before (what.Token kind) size = omega arith

  abbrev Few : List ℕ → Type 0
  Few text = (before : List ℕ) (is_first : Bool) (left : ℕ) (tokens : List (Token K)) → divided front before is_first left text ≡ Ok tokens → length tokens ≤ length text

  abbrev given : List (Token K) → Result (List (Token K)) Fault
  given tokens = Ok tokens

  inside : (a b : List (Token K)) → given a ≡ given b → a ≡ b
  inside a b e = cc e

  few_behind : (octet : ℕ) (text before : List ℕ) (is_first : Bool) (tokens : List (Token K)) (piece : Piece K) → Few text → (rest : Result (List (Token K)) Fault)
      → divided front (before ++ octet ∷ []) (first_after piece.what is_first octet) (piece.size - 1) text ≡ rest → behind (token_of before piece.what piece.size) rest ≡ Ok tokens → length tokens ≤ suc (length text)
  few_behind octet text before is_first tokens piece more (Err fault) d e = absurd (cc e)
  few_behind octet text before is_first tokens piece more (Ok rest) d e =
      let same : token_of before piece.what piece.size ++ rest ≡ tokens = inside (token_of before piece.what piece.size ++ rest) tokens e in
      omega (arith, one_at_most before piece.what piece.size, more (before ++ octet ∷ []) (first_after piece.what is_first octet) (piece.size - 1) rest d, length-append (token_of before piece.what piece.size) rest, ap length same)

  few_from : (octet : ℕ) (text before : List ℕ) (is_first : Bool) (tokens : List (Token K)) → Few text → (r : Result (Piece K) Rule)
      → goes_on before r (λ piece. divided front (before ++ octet ∷ []) (first_after piece.what is_first octet) (piece.size - 1) text) ≡ Ok tokens → length tokens ≤ suc (length text)
  few_from octet text before is_first tokens more (Err rule) e = absurd (cc e)
  few_from octet text before is_first tokens more (Ok piece) e =
      few_behind octet text before is_first tokens piece more (divided front (before ++ octet ∷ []) (first_after piece.what is_first octet) (piece.size - 1) text) refl e

  pub few_tokens : (text : List ℕ) → Few text
  few_tokens [] before is_first zero tokens e = let same : [] ≡ tokens = inside [] tokens e in omega (arith, ap length same)
  few_tokens [] before is_first (suc left) tokens e = let same : [] ≡ tokens = inside [] tokens e in omega (arith, ap length same)
  few_tokens (octet ∷ text) before is_first (suc left) tokens e = omega (arith, few_tokens text (before ++ octet ∷ []) is_first left tokens e)
  few_tokens (octet ∷ text) before is_first zero tokens e = few_from octet text before is_first tokens (few_tokens text) (front is_first (octet ∷ text)) e

pub texts_are_brief : TextsAreBrief
texts_are_brief text s is =
    omega (arith, few_tokens front14 text [] true 0 is.tokens is.divided, length-map is.tokens (lexeme_in text), ap length is.spelled.tokens_are)
