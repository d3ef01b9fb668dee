-- The division, a piece at a time.
use Rattle.std.proofs.Common.{◌≡◌, ℕ, zero, suc, ◌+◌, ◌-◌, ◌<◌, ◌≤◌, Bool, true, List, [], ◌∷◌, ◌++◌, length, get_or, take, drop, refl, sym, ap, ◌∙◌, arith, append_assoc, append-nil, Result, Ok, Err, Some}
use Rattle.std.proofs.lemmas.List.{length-drop, drop_all, drop-drop}
use Rattle.p4x_fault.specs.declared.Rule.{Rule}
use Rattle.p4x_fault.specs.declared.Place.{Place}
use Rattle.p4x_fault.specs.declared.Fault.{Fault}
use Rattle.token_division.specs.declared.division.Token.{Token}
use Rattle.token_division.specs.declared.division.Piece.{Piece}
use Rattle.token_division.specs.Division.{Front, divided, division, goes_on, behind, token_of, first_after, place_after}
use Rattle.token_division.proofs.Places.{take-add}

-- the first octet of a piece, and the others
take_one : (n octet : ℕ) (text : List ℕ) → 0 < n → take n (octet ∷ text) ≡ octet ∷ take (n - 1) text
take_one zero octet text l = absurd (omega arith)
take_one (suc n) octet text l = ap (λ k. octet ∷ take k text) (omega arith)

drop_one : (n octet : ℕ) (text : List ℕ) → 0 < n → drop n (octet ∷ text) ≡ drop (n - 1) text
drop_one zero octet text l = absurd (omega arith)
drop_one (suc n) octet text l = ap (λ k. drop k text) (omega arith)

pub behind_nothing : {K : Type 0} (r : Result (List (Token K)) Fault) → behind [] r ≡ r
behind_nothing (Ok us) = refl
behind_nothing (Err f) = refl

behind_both : {K : Type 0} (ts us : List (Token K)) (r : Result (List (Token K)) Fault) → behind ts (behind us r) ≡ behind (ts ++ us) r
behind_both ts us (Ok vs) = ap Ok (sym (append_assoc ts us vs))
behind_both ts us (Err f) = refl

module _ {K : Type 0} (front : Front K) where
  -- the octets of a piece behind its first
  skips : (k : ℕ) (before text : List ℕ) (is_first : Bool) → k ≤ length text → divided front before is_first k text ≡ divided front (before ++ take k text) is_first 0 (drop k text)
  skips zero before text is_first l = ap (λ xs. divided front xs is_first 0 text) (sym (append-nil before))
  skips (suc k) before [] is_first l = absurd (omega arith)
  skips (suc k) before (octet ∷ text) is_first l = skips k (before ++ octet ∷ []) text is_first (omega arith) ∙ ap (λ xs. divided front xs is_first 0 (drop k text)) (append_assoc before (octet ∷ []) (take k text))

  -- one piece
  pub one_piece : (before text : List ℕ) (is_first : Bool) (piece : Piece K) → front is_first text ≡ Ok piece → 0 < piece.size → piece.size ≤ length text → divided front before is_first 0 text ≡ behind (token_of before piece.what piece.size) (divided front (before ++ take piece.size text) (first_after piece.what is_first (get_or text 0 0)) 0 (drop piece.size text))
  one_piece before [] is_first piece e p l = absurd (omega arith)
  one_piece before (octet ∷ text) is_first piece e p l =
      ap (λ r. goes_on before r (λ found. divided front (before ++ octet ∷ []) (first_after found.what is_first octet) (found.size - 1) text)) e
      ∙ ap (behind (token_of before piece.what piece.size)) (skips (piece.size - 1) (before ++ octet ∷ []) text (first_after piece.what is_first octet) (omega arith)
      ∙ ap (λ xs. divided front xs (first_after piece.what is_first octet) 0 (drop (piece.size - 1) text)) (append_assoc before (octet ∷ []) (take (piece.size - 1) text) ∙ ap (λ xs. before ++ xs) (sym (take_one piece.size octet text p)))
      ∙ ap (λ xs. divided front (before ++ take piece.size (octet ∷ text)) (first_after piece.what is_first octet) 0 xs) (sym (drop_one piece.size octet text p)))

  -- a piece that is refused
  refused_piece : (before text : List ℕ) (is_first : Bool) (rule : Rule) → 0 < length text → front is_first text ≡ Err rule → divided front before is_first 0 text ≡ Err (record { rule = rule; place = Some (place_after before) })
  refused_piece before [] is_first rule l e = absurd (omega arith)
  refused_piece before (octet ∷ text) is_first rule l e = ap (λ r. goes_on before r (λ found. divided front (before ++ octet ∷ []) (first_after found.what is_first octet) (found.size - 1) text)) e

  -- the text is divided up to `at`
  pub record Divided (text : List ℕ) (ts : List (Token K)) (at : ℕ) (is_first : Bool) (place : Place) : Type 0 where
    pub within : at ≤ length text
    pub placed : place ≡ place_after (take at text)
    pub is : behind ts (divided front (take at text) is_first 0 (drop at text)) ≡ division front text

  pub at_start : (text : List ℕ) (p : Place) → p ≡ place_after [] → Divided text [] 0 true p
  at_start text p e = record { within = omega arith; placed = e; is = behind_nothing (division front text) }

  pub on_piece : (text left : List ℕ) (ts us : List (Token K)) (at : ℕ) (is_first : Bool) (p q : Place) (piece : Piece K) → Divided text ts at is_first p → left ≡ drop at text → front is_first left ≡ Ok piece → 0 < piece.size → piece.size ≤ length left → us ≡ ts ++ token_of (take at text) piece.what piece.size → q ≡ place_after (take at text ++ take piece.size left) → Divided text us (at + piece.size) (first_after piece.what is_first (get_or left 0 0)) q
  on_piece text left ts us at is_first p q piece d g e s l u w =
      let after = first_after piece.what is_first (get_or left 0 0) in
      let n : length left + at ≡ length text = omega (arith, ap length g, length-drop at text, d.within) in
      let t : take at text ++ take piece.size left ≡ take (at + piece.size) text = ap (λ xs. take at text ++ take piece.size xs) g ∙ sym (take-add at piece.size text) in
      let r : drop piece.size left ≡ drop (at + piece.size) text = ap (drop piece.size) g ∙ drop-drop piece.size at text in
      record {
        within = omega arith;
        placed = w ∙ ap place_after t;
        is =
            ap (λ vs. behind vs (divided front (take (at + piece.size) text) after 0 (drop (at + piece.size) text))) u
            ∙ sym (behind_both ts (token_of (take at text) piece.what piece.size) (divided front (take (at + piece.size) text) after 0 (drop (at + piece.size) text)))
            ∙ ap (λ xs. behind ts (behind (token_of (take at text) piece.what piece.size) (divided front xs after 0 (drop (at + piece.size) text)))) (sym t)
            ∙ ap (λ xs. behind ts (behind (token_of (take at text) piece.what piece.size) (divided front (take at text ++ take piece.size left) after 0 xs))) (sym r)
            ∙ ap (behind ts) (sym (one_piece (take at text) left is_first piece e s l))
            ∙ ap (λ xs. behind ts (divided front (take at text) is_first 0 xs)) g
            ∙ d.is;
      }

  pub at_end : (text : List ℕ) (ts : List (Token K)) (at : ℕ) (is_first : Bool) (p : Place) → Divided text ts at is_first p → length text ≤ at → division front text ≡ Ok ts
  at_end text ts at is_first p d l = sym d.is ∙ ap (λ xs. behind ts (divided front (take at text) is_first 0 xs)) (drop_all at text l) ∙ ap Ok (append-nil ts)

  pub on_fault : (text left : List ℕ) (ts : List (Token K)) (at : ℕ) (is_first : Bool) (p : Place) (rule : Rule) → Divided text ts at is_first p → at < length text → left ≡ drop at text → front is_first left ≡ Err rule → division front text ≡ Err (record { rule = rule; place = Some p })
  on_fault text left ts at is_first p rule d l g e =
      let n : 0 < length left = omega (arith, ap length g, length-drop at text) in
      sym d.is ∙ ap (λ xs. behind ts (divided front (take at text) is_first 0 xs)) (sym g) ∙ ap (behind ts) (refused_piece (take at text) left is_first rule n e)
      ∙ ap (λ (q : Place). Err (record { rule = rule; place = Some q })) (sym d.placed)
