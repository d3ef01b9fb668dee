-- The place behind one more octet, and the order of places.
use Rattle.std.proofs.Common.{◌≡◌, ℕ, zero, suc, ◌+◌, ◌-◌, ◌<◌, ◌≤◌, Bool, true, false, List, [], ◌∷◌, ◌++◌, length, get_or, take, drop, refl, sym, ap, ◌∙◌, subst, arith, cond, append_assoc, inl, inr}
use Rattle.std.specs.Prelude.{not}
use Rattle.std.specs.List.{count_by, suffix_len, prefix_len}
use Rattle.std.proofs.lemmas.List.{reverse-append, take_more, take_all, length-take-le, length-drop}
use Rattle.std.proofs.lemmas.List.Sums.{sum_by_push, count_by-le-length, suffix_len-le-length}
use Rattle.p4x_fault.specs.declared.Place.{Place}
use Rattle.token_division.specs.Octets.{is_line_feed, is_on_line}
use Rattle.token_division.specs.Division.{place_after}
use Rattle.token_division.specs.Layout.{IsBefore}

abbrev at_place : ℕ → ℕ → Place
at_place line column = record { line = line; column = column }

pub suffix_push : (p : ℕ → Bool) (xs : List ℕ) (x : ℕ) → suffix_len p (xs ++ x ∷ []) ≡ cond (p x) (1 + suffix_len p xs) 0
suffix_push p xs x = ap (prefix_len p) (reverse-append xs (x ∷ []))

count_push : (p : ℕ → Bool) (xs : List ℕ) (x : ℕ) → count_by p (xs ++ x ∷ []) ≡ count_by p xs + cond (p x) 1 0
count_push p xs x = sum_by_push (λ y. cond (p y) 1 0) xs x

push_line : (before : List ℕ) (octet line column : ℕ) → is_line_feed octet ≡ true → at_place line column ≡ place_after before → at_place (line + 1) 1 ≡ place_after (before ++ octet ∷ [])
push_line before octet line column e h =
    let l : line ≡ 1 + count_by is_line_feed before = ap (λ (p : Place). p.line) h in
    let c = count_push is_line_feed before octet ∙ ap (λ t. count_by is_line_feed before + cond t 1 0) e in
    let s = suffix_push is_on_line before octet ∙ ap (λ t. cond (not t) (1 + suffix_len is_on_line before) 0) e in
    let x : line + 1 ≡ 1 + count_by is_line_feed (before ++ octet ∷ []) = omega (arith, l, c) in
    let y : 1 ≡ 1 + suffix_len is_on_line (before ++ octet ∷ []) = omega (arith, s) in
    (λ i. at_place (x i) (y i))

push_column : (before : List ℕ) (octet line column : ℕ) → is_line_feed octet ≡ false → at_place line column ≡ place_after before → at_place line (column + 1) ≡ place_after (before ++ octet ∷ [])
push_column before octet line column e h =
    let l : line ≡ 1 + count_by is_line_feed before = ap (λ (p : Place). p.line) h in
    let m : column ≡ 1 + suffix_len is_on_line before = ap (λ (p : Place). p.column) h in
    let c = count_push is_line_feed before octet ∙ ap (λ t. count_by is_line_feed before + cond t 1 0) e in
    let s = suffix_push is_on_line before octet ∙ ap (λ t. cond (not t) (1 + suffix_len is_on_line before) 0) e in
    let x : line ≡ 1 + count_by is_line_feed (before ++ octet ∷ []) = omega (arith, l, c) in
    let y : column + 1 ≡ 1 + suffix_len is_on_line (before ++ octet ∷ []) = omega (arith, m, s) in
    (λ i. at_place (x i) (y i))

more_after : (before piece : List ℕ) (i : ℕ) → i < length piece → before ++ take (i + 1) piece ≡ (before ++ take i piece) ++ get_or piece i 0 ∷ []
more_after before piece i l = ap (λ xs. before ++ xs) (take_more piece i 0 l) ∙ sym (append_assoc before (take i piece) (get_or piece i 0 ∷ []))

pub place_more_line : (before piece : List ℕ) (i line column : ℕ) → i < length piece → is_line_feed (get_or piece i 0) ≡ true → at_place line column ≡ place_after (before ++ take i piece) → at_place (line + 1) 1 ≡ place_after (before ++ take (i + 1) piece)
place_more_line before piece i line column l e h = push_line (before ++ take i piece) (get_or piece i 0) line column e h ∙ ap place_after (sym (more_after before piece i l))

pub place_more_column : (before piece : List ℕ) (i line column : ℕ) → i < length piece → is_line_feed (get_or piece i 0) ≡ false → at_place line column ≡ place_after (before ++ take i piece) → at_place line (column + 1) ≡ place_after (before ++ take (i + 1) piece)
place_more_column before piece i line column l e h = push_column (before ++ take i piece) (get_or piece i 0) line column e h ∙ ap place_after (sym (more_after before piece i l))

-- a place is no further than there are octets
pub line_within : (before : List ℕ) (p : Place) → p ≡ place_after before → p.line ≤ 1 + length before
line_within before p e = let k = ap (λ (q : Place). q.line) e in omega (arith, k, count_by-le-length is_line_feed before)

pub column_within : (before : List ℕ) (p : Place) → p ≡ place_after before → p.column ≤ 1 + length before
column_within before p e = let k = ap (λ (q : Place). q.column) e in omega (arith, k, suffix_len-le-length is_on_line before)

-- places rise
before_all : (p q r : Place) → IsBefore p q → IsBefore q r → IsBefore p r
before_all p q r (inl h) (inl k) = inl (omega arith)
before_all p q r (inl h) (inr k) = inl (omega (arith, k.0))
before_all p q r (inr h) (inl k) = inl (omega (arith, h.0))
before_all p q r (inr h) (inr k) = inr (h.0 ∙ k.0, omega (arith, h.1, k.1))

before_one : (before : List ℕ) (octet : ℕ) → IsBefore (place_after before) (place_after (before ++ octet ∷ []))
before_one before octet = by_kind (is_line_feed octet) refl
  where
    by_kind : (t : Bool) → is_line_feed octet ≡ t → IsBefore (place_after before) (place_after (before ++ octet ∷ []))
    by_kind true e = let c = count_push is_line_feed before octet ∙ ap (λ t. count_by is_line_feed before + cond t 1 0) e in inl (omega (arith, c))
    by_kind false e =
        let c = count_push is_line_feed before octet ∙ ap (λ t. count_by is_line_feed before + cond t 1 0) e in
        let s = suffix_push is_on_line before octet ∙ ap (λ t. cond (not t) (1 + suffix_len is_on_line before) 0) e in
        inr (omega (arith, c), omega (arith, s))

before_more : (before piece : List ℕ) (octet : ℕ) → IsBefore (place_after before) (place_after (before ++ octet ∷ piece))
before_more before [] octet = before_one before octet
before_more before (next ∷ piece) octet =
    let e = append_assoc before (octet ∷ []) (next ∷ piece) in
    before_all (place_after before) (place_after (before ++ octet ∷ [])) (place_after (before ++ octet ∷ next ∷ piece)) (before_one before octet)
    (subst (λ (xs : List ℕ). IsBefore (place_after (before ++ octet ∷ [])) (place_after xs)) e (before_more (before ++ octet ∷ []) piece next))

pub take-add : (a n : ℕ) (text : List ℕ) → take (a + n) text ≡ take a text ++ take n (drop a text)
take-add zero n text = ap (λ k. take k text) (omega arith)
take-add (suc a) n [] = take_all (suc a + n) [] (omega arith) ∙ sym (take_all n [] (omega arith))
take-add (suc a) n (octet ∷ text) = (let e : suc a + n ≡ suc (a + n) = omega arith in ap (λ k. take k (octet ∷ text)) e) ∙ ap (λ xs. octet ∷ xs) (take-add a n text)

-- of two octets of a text the earlier has the earlier place
pub before_in : (text : List ℕ) (a b : ℕ) → a < b → b ≤ length text → IsBefore (place_after (take a text)) (place_after (take b text))
before_in text a b l k = go (take (b - a) (drop a text)) refl
  where
    go : (piece : List ℕ) → take (b - a) (drop a text) ≡ piece → IsBefore (place_after (take a text)) (place_after (take b text))
    go [] e = absurd (omega (arith, ap length e, length-take-le (b - a) (drop a text) (omega (arith, length-drop a text)), length-drop a text))
    go (octet ∷ piece) e =
        let n : b ≡ a + (b - a) = omega arith in
        let w : take a text ++ octet ∷ piece ≡ take b text = ap (λ xs. take a text ++ xs) (sym e) ∙ sym (take-add a (b - a) text) ∙ ap (λ m. take m text) (sym n) in
        subst (λ (xs : List ℕ). IsBefore (place_after (take a text)) (place_after xs)) w (before_more (take a text) piece octet)
