-- Each token of a division is what the text begins with where the token begins.
use Rattle.std.proofs.Common.{◌≡◌, ℕ, zero, suc, ◌+◌, ◌-◌, Bool, true, List, [], ◌∷◌, ◌++◌, length, drop, refl, sym, ap, ◌∙◌, subst, arith, append_assoc, Result, Ok, Err}
use Rattle.std.specs.Prelude.{All}
use Rattle.std.proofs.Math.Seq.{drop-append_seam}
use Rattle.std.proofs.lemmas.List.Elements.{All-cons, All-append}
use Rattle.p4x_fault.specs.declared.Rule.{Rule}
use Rattle.p4x_fault.specs.declared.Fault.{Fault}
use Rattle.token_division.specs.declared.division.Token.{Token}
use Rattle.token_division.specs.declared.division.Piece.{Piece}
use Rattle.token_division.specs.declared.division.What.{What}
use Rattle.token_division.specs.declared.division.What.TheVariants as what
use Rattle.token_division.specs.Division.{Front, divided, division, goes_on, behind, token_of, first_after, place_after}
use Rattle.token_division.specs.Layout.{IsPieceOf}

-- tokens in front of those of the rest
joined : {K : Type 0} (P : Token K → Type 0) (ts tokens : List (Token K)) (rest : Result (List (Token K)) Fault) → behind ts rest ≡ Ok tokens → All P ts → ((more : List (Token K)) → rest ≡ Ok more → All P more) → All P tokens
joined P ts tokens (Ok more) e h later = let q : ts ++ more ≡ tokens = cc in subst (All P) q (All-append P ts more h (later more refl))
joined P ts tokens (Err fault) e h later = absurd (cc)

module _ {K : Type 0} (front : Front K) where
  -- the token that a piece is, if it is one
  one_token : (before text : List ℕ) (is_first : Bool) (w : What K) (size : ℕ) → front is_first text ≡ Ok (record { what = w; size = size }) → All (IsPieceOf front (before ++ text)) (token_of before w size)
  one_token before text is_first what.Blank size e = λ k d l. absurd (omega arith)
  one_token before text is_first what.Skipped size e = λ k d l. absurd (omega arith)
  one_token before text is_first (what.Token kind) size e =
      let token : Token K = record { kind = kind; «from» = length before; to = length before + size; place = place_after before } in
      let n : size ≡ (length before + size) - length before = omega arith in
      All-cons (IsPieceOf front (before ++ text)) token []
      (is_first, ap (front is_first) (drop-append_seam before text) ∙ e ∙ ap (λ m. Ok (record { what = what.Token kind; size = m })) n)
      (λ k d l. absurd (omega arith))

  -- the tokens behind `before`
  pieces_behind : (before text : List ℕ) (is_first : Bool) (left : ℕ) (tokens : List (Token K)) → divided front before is_first left text ≡ Ok tokens → All (IsPieceOf front (before ++ text)) tokens
  pieces_behind before [] is_first left tokens e = let q : [] ≡ tokens = cc in subst (All (IsPieceOf front (before ++ []))) q (λ k d l. absurd (omega arith))
  pieces_behind before (octet ∷ text) is_first (suc left) tokens e =
      subst (λ xs. All (IsPieceOf front xs) tokens) (append_assoc before (octet ∷ []) text) (pieces_behind (before ++ octet ∷ []) text is_first left tokens e)
  pieces_behind before (octet ∷ text) is_first zero tokens e =
      by (front is_first (octet ∷ text)) refl e (λ piece more f. subst (λ xs. All (IsPieceOf front xs) more) (append_assoc before (octet ∷ []) text) (pieces_behind (before ++ octet ∷ []) text (first_after piece.what is_first octet) (piece.size - 1) more f))
    where
      rest : Piece K → Result (List (Token K)) Fault
      rest piece = divided front (before ++ octet ∷ []) (first_after piece.what is_first octet) (piece.size - 1) text

      by : (r : Result (Piece K) Rule) → front is_first (octet ∷ text) ≡ r → goes_on before r rest ≡ Ok tokens → ((piece : Piece K) (more : List (Token K)) → rest piece ≡ Ok more → All (IsPieceOf front (before ++ octet ∷ text)) more) → All (IsPieceOf front (before ++ octet ∷ text)) tokens
      by (Err rule) f e later = absurd (cc)
      by (Ok piece) f e later =
          joined (IsPieceOf front (before ++ octet ∷ text)) (token_of before piece.what piece.size) tokens (rest piece) e
          (one_token before (octet ∷ text) is_first piece.what piece.size f) (later piece)

  -- of a whole text
  pub pieces_of : (text : List ℕ) (tokens : List (Token K)) → division front text ≡ Ok tokens → All (IsPieceOf front text) tokens
  pieces_of text tokens e = pieces_behind [] text true 0 tokens e
