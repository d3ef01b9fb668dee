-- A text that goes on to be divided in the same way, with more at its end.
use Rattle.std.proofs.Common.{◌≡◌, ℕ, ◌+◌, ◌<◌, ◌≤◌, Bool, true, false, List, [], ◌∷◌, ◌++◌, length, get_or, take, drop, refl, sym, ap, ◌∙◌, subst, arith, append_assoc, append-nil, length-append, Option, Some, None, Result, Ok, Err}
use Rattle.std.specs.List.{list_all}
use Rattle.std.specs.Prelude.{◌||◌}
use Rattle.std.proofs.Math.Seq.{take-append_seam, drop-append_seam}
use Rattle.std.proofs.lemmas.Bool.{and_parts}
use Rattle.p4x_fault.specs.declared.Fault.{Fault}
use Rattle.token_division.specs.declared.division.Token.{Token}
use Rattle.token_division.specs.declared.division.Piece.{Piece}
use Rattle.token_division.specs.declared.division.What.{What}
use Rattle.token_division.specs.declared.division.What.TheVariants as what
use Rattle.token_division.specs.Octets.{is_blank, is_line_feed}
use Rattle.token_division.specs.Division.{Front, divided, division, behind, token_of, first_after, place_after}
use Rattle.token_division.proofs.Steps.{one_piece, behind_nothing}
use Rattle.token_sheet.specs.Words.{Meets, words_in, words_found, sheet_text, sheet_words, IsDividedInto}
use Rattle.token_sheet.specs.Spelling.{Spells, Parts, IsSpelling}
use Rattle.token_sheet.specs.Blanks.{may_follow}
use Rattle.token_sheet.specs.Ready.{HasTokens, IsReady, Ends, last_of}
use Rattle.token_sheet.proofs.Tokens.{within_more, within_push, last_push, ends_earlier, words_stay}

behind_both : {K : Type 0} (ts us : List (Token K)) (r : Result (List (Token K)) Fault) → behind ts (behind us r) ≡ behind (ts ++ us) r
behind_both ts us (Ok vs) = ap Ok (sym (append_assoc ts us vs))
behind_both ts us (Err f) = refl

pub front_first : (xs rest : List ℕ) → 0 < length xs → get_or (xs ++ rest) 0 0 ≡ get_or xs 0 0
front_first [] rest l = absurd (omega arith)
front_first (x ∷ xs) rest l = refl

-- whether nothing but blanks stands before what follows blanks
abbrev pub first_behind : Bool → List ℕ → Bool
first_behind is_first [] = is_first
first_behind is_first (octet ∷ blanks) = first_behind (is_line_feed octet || is_first) blanks

module _ {K : Type 0} (front : Front K) (parts : Parts K) where
  pub ready_empty : HasTokens front parts [] [] None 0 true
  ready_empty = record { within = tt; ends = tt; starts = omega arith; feeds = refl; goes = λ rest h. sym (behind_nothing (divided front [] true 0 rest)) }

  -- one piece more
  goes_piece : (text : List ℕ) (ts : List (Token K)) (last : Option K) (start : ℕ) (is_first : Bool) → HasTokens front parts text ts last start is_first → (p rest : List ℕ) (w : What K) → 0 < length p → may_follow parts last (drop start text) (get_or p 0 0) ≡ true → front is_first (p ++ rest) ≡ Ok (record { what = w; size = length p }) → divided front [] true 0 ((text ++ p) ++ rest) ≡ behind (ts ++ token_of text w (length p)) (divided front (text ++ p) (first_after w is_first (get_or p 0 0)) 0 rest)
  goes_piece text ts last start is_first r p rest w l m e =
      let f : Piece K = record { what = w; size = length p } in
      let n : length p ≤ length (p ++ rest) = omega (arith, length-append p rest) in
      ap (divided front [] true 0) (append_assoc text p rest)
      ∙ r.goes (p ++ rest) (ap (may_follow parts last (drop start text)) (front_first p rest l) ∙ m)
      ∙ ap (behind ts) (one_piece front text (p ++ rest) is_first f e l n
      ∙ ap (behind (token_of text w (length p)))
      (ap (λ b. divided front (text ++ take (length p) (p ++ rest)) (first_after w is_first b) 0 (drop (length p) (p ++ rest))) (front_first p rest l)
      ∙ ap (λ s. divided front (text ++ s) (first_after w is_first (get_or p 0 0)) 0 (drop (length p) (p ++ rest))) (take-append_seam p rest)
      ∙ ap (λ s. divided front (text ++ p) (first_after w is_first (get_or p 0 0)) 0 s) (drop-append_seam p rest)))
      ∙ behind_both ts (token_of text w (length p)) (divided front (text ++ p) (first_after w is_first (get_or p 0 0)) 0 rest)

  module _ (spells : Spells K) (begins_line : K → Bool) (laws : IsSpelling front spells parts begins_line) where
    ready_blank : (text : List ℕ) (ts : List (Token K)) (last : Option K) (start : ℕ) (is_first : Bool) (octet : ℕ) → HasTokens front parts text ts last start is_first → is_blank octet ≡ true → may_follow parts last (drop start text) octet ≡ true → HasTokens front parts (text ++ octet ∷ []) ts None start (is_line_feed octet || is_first)
    ready_blank text ts last start is_first octet r b m =
        let n : length (text ++ octet ∷ []) ≡ length text + 1 = length-append text (octet ∷ []) in
        record {
          within = within_more (length text) (length (text ++ octet ∷ [])) ts (omega arith) r.within;
          ends = ends_earlier (length text) (length (text ++ octet ∷ [])) (last_of None ts) last (omega arith) r.ends;
          starts = omega (arith, r.starts);
          feeds = refl;
          goes = λ rest h.
              goes_piece text ts last start is_first r (octet ∷ []) rest what.Blank (omega arith) m (laws.blanks is_first octet rest b)
              ∙ ap (λ us. behind us (divided front (text ++ octet ∷ []) (is_line_feed octet || is_first) 0 rest)) (append-nil ts);
        }

    -- blanks behind blanks
    more_blanks : (blanks text : List ℕ) (ts : List (Token K)) (start : ℕ) (is_first : Bool) → HasTokens front parts text ts None start is_first → list_all is_blank blanks ≡ true → HasTokens front parts (text ++ blanks) ts None start (first_behind is_first blanks)
    more_blanks [] text ts start is_first r b = subst (λ (xs : List ℕ). HasTokens front parts xs ts None start is_first) (sym (append-nil text)) r
    more_blanks (octet ∷ blanks) text ts start is_first r b =
        let both = and_parts (is_blank octet) (list_all is_blank blanks) b in
        let whole : (text ++ octet ∷ []) ++ blanks ≡ text ++ octet ∷ blanks = append_assoc text (octet ∷ []) blanks in
        subst (λ (xs : List ℕ). HasTokens front parts xs ts None start (first_behind (is_line_feed octet || is_first) blanks)) whole
        (more_blanks blanks (text ++ octet ∷ []) ts start (is_line_feed octet || is_first) (ready_blank text ts None start is_first octet r both.0 refl) both.1)

    pub ready_blanks : (octet : ℕ) (blanks text : List ℕ) (ts : List (Token K)) (last : Option K) (start : ℕ) (is_first : Bool) → HasTokens front parts text ts last start is_first → list_all is_blank (octet ∷ blanks) ≡ true → may_follow parts last (drop start text) octet ≡ true → HasTokens front parts (text ++ octet ∷ blanks) ts None start (first_behind is_first (octet ∷ blanks))
    ready_blanks octet blanks text ts last start is_first r b m =
        let both = and_parts (is_blank octet) (list_all is_blank blanks) b in
        let whole : (text ++ octet ∷ []) ++ blanks ≡ text ++ octet ∷ blanks = append_assoc text (octet ∷ []) blanks in
        subst (λ (xs : List ℕ). HasTokens front parts xs ts None start (first_behind (is_line_feed octet || is_first) blanks)) whole
        (more_blanks blanks (text ++ octet ∷ []) ts start (is_line_feed octet || is_first) (ready_blank text ts last start is_first octet r both.0 m) both.1)

    pub ready_token : (text : List ℕ) (ts : List (Token K)) (last : Option K) (start : ℕ) (is_first : Bool) (k : K) (o : List ℕ) → HasTokens front parts text ts last start is_first → spells k o → (begins_line k ≡ true → is_first ≡ true) → may_follow parts last (drop start text) (get_or o 0 0) ≡ true → HasTokens front parts (text ++ o) (ts ++ token_of text (what.Token k) (length o)) (Some k) (length text) false
    ready_token text ts last start is_first k o r s line m =
        let d : drop (length text) (text ++ o) ≡ o = drop-append_seam text o in
        let n : length (text ++ o) ≡ length text + length o = length-append text o in
        let t : Token K = record { kind = k; «from» = length text; to = length text + length o; place = place_after text } in
        let end : Ends (length (text ++ o)) (Some t) (Some k) = (refl, sym n) in
        record {
          within = within_push (length (text ++ o)) ts t (within_more (length text) (length (text ++ o)) ts (omega arith) r.within) (omega arith);
          ends = subst (λ (u : Option (Token K)). Ends (length (text ++ o)) u (Some k)) (sym (last_push None ts t)) end;
          starts = omega arith;
          feeds = ap (λ x. parts k x 10) d ∙ laws.feeds k o s;
          goes = λ rest h. goes_piece text ts last start is_first r o rest (what.Token k) (laws.some k o s) m (laws.again is_first k o rest s line (ap (λ x. parts k x (get_or rest 0 0)) (sym d) ∙ h));
        }

    -- with a line feed behind it, it is divided
    pub division_of : (text : List ℕ) (ts : List (Token K)) (last : Option K) (start : ℕ) (is_first : Bool) → HasTokens front parts text ts last start is_first → division front (sheet_text text) ≡ Ok ts
    division_of text ts last start is_first r =
        ap (divided front [] true 0) (sym (append-nil (sheet_text text)))
        ∙ goes_piece text ts last start is_first r (10 ∷ []) [] what.Blank (omega arith) r.feeds (laws.blanks is_first 10 [] refl)
        ∙ ap Ok (append-nil (ts ++ [])) ∙ ap Ok (append-nil ts)

    pub words_of : (meets : Meets K) (text : List ℕ) (ts : List (Token K)) (last : Option K) (start : ℕ) (is_first : Bool) → HasTokens front parts text ts last start is_first → sheet_words front meets text ≡ words_in meets text ts
    words_of meets text ts last start is_first r =
        ap (words_found meets (sheet_text text)) (division_of text ts last start is_first r) ∙ words_stay meets ts text (10 ∷ []) r.within

    pub divided_into : (meets : Meets K) (text : List ℕ) (last : Option K) (start : ℕ) (is_first : Bool) → IsReady front parts text last start is_first → IsDividedInto front meets (sheet_text text) (sheet_words front meets text)
    divided_into meets text last start is_first r = record {
      tokens = r.tokens;
      divided = division_of text r.tokens last start is_first r.has;
      are = sym (ap (words_found meets (sheet_text text)) (division_of text r.tokens last start is_first r.has));
    }
