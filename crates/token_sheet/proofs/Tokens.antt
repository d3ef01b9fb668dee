-- Lists of tokens of a text that grows at its end.
use Rattle.std.proofs.Common.{◌≡◌, ℕ, zero, suc, ◌+◌, ◌-◌, ◌<◌, ◌≤◌, Bool, true, false, List, [], ◌∷◌, ◌++◌, length, take, drop, refl, sym, ap, ◌∙◌, arith, Option, Some, None}
use Rattle.std.proofs.Math.Seq.{drop-append_seam}
use Rattle.std.proofs.lemmas.List.{take-append-le, take_all}
use Rattle.token_division.specs.declared.division.Token.{Token}
use Rattle.token_sheet.specs.Words.{Meets, first_of, touches, word_of, words_in}
use Rattle.token_sheet.specs.Ready.{AreWithin, last_of, Ends}

-- octets of the text as it grows
pub part_stays : (a b : ℕ) (text o : List ℕ) → b ≤ length text → take (b - a) (drop a (text ++ o)) ≡ take (b - a) (drop a text)
part_stays zero b text o l = let e : b - 0 ≡ b = omega arith in ap (λ n. take n (text ++ o)) e ∙ take-append-le b text o l ∙ ap (λ n. take n text) (sym e)
part_stays (suc a) b [] o l = let e : b - suc a ≡ 0 = omega arith in ap (λ n. take n (drop (suc a) o)) e ∙ sym (ap (λ n. take n (drop (suc a) [])) e)
part_stays (suc a) zero (x ∷ text) o l = let e : 0 - suc a ≡ 0 = omega arith in ap (λ n. take n (drop a (text ++ o))) e ∙ sym (ap (λ n. take n (drop a text)) e)
part_stays (suc a) (suc b) (x ∷ text) o l = let e : suc b - suc a ≡ b - a = omega arith in ap (λ n. take n (drop a (text ++ o))) e ∙ part_stays a b text o (omega arith) ∙ sym (ap (λ n. take n (drop a text)) e)

pub new_octets : (text o : List ℕ) → take (length text + length o - length text) (drop (length text) (text ++ o)) ≡ o
new_octets text o = let e : length text + length o - length text ≡ length o = omega arith in ap (λ n. take n (drop (length text) (text ++ o))) e ∙ ap (take (length o)) (drop-append_seam text o) ∙ take_all (length o) o (omega arith)

module _ {K : Type 0} where
  pub within_more : (n m : ℕ) (ts : List (Token K)) → n ≤ m → AreWithin n ts → AreWithin m ts
  within_more n m [] l h = tt
  within_more n m (t ∷ ts) l h = (omega (arith, h.0), within_more n m ts l h.1)

  pub within_push : (n : ℕ) (ts : List (Token K)) (t : Token K) → AreWithin n ts → t.to ≤ n → AreWithin n (ts ++ t ∷ [])
  within_push n [] t h l = (l, tt)
  within_push n (u ∷ ts) t h l = (h.0, within_push n ts t h.1 l)

  pub last_push : (before : Option (Token K)) (ts : List (Token K)) (t : Token K) → last_of before (ts ++ t ∷ []) ≡ Some t
  last_push before [] t = refl
  last_push before (u ∷ ts) t = last_push (Some u) ts t

  -- behind blanks the last token has ended
  pub ends_earlier : (n m : ℕ) (t : Option (Token K)) (last : Option K) → n < m → Ends n t last → Ends m t None
  ends_earlier n m None None l h = tt
  ends_earlier n m None (Some k) l h = absurd h
  ends_earlier n m (Some t) None l h = omega (arith, h)
  ends_earlier n m (Some t) (Some k) l h = omega (arith, h.1)

  module _ (meets : Meets K) where
    pub words_stay : (ts : List (Token K)) (text o : List ℕ) → AreWithin (length text) ts → words_in meets (text ++ o) ts ≡ words_in meets text ts
    words_stay [] text o h = refl
    words_stay (t ∷ ts) text o h =
        (λ i. record { kind = t.kind; octets = part_stays t.«from» t.to text o h.0 i; is_joined = touches meets t (first_of ts) } ∷ words_stay ts text o h.1 i)

    -- the token touches the last of these, and the language tells it
    abbrev pub touches_last : Option (Token K) → Token K → Bool
    touches_last None t = false
    touches_last (Some last) t = touches meets last (Some t)

    -- a token more
    pub push_apart : (text : List ℕ) (before : Option (Token K)) (ts : List (Token K)) (t : Token K) → touches_last (last_of before ts) t ≡ false → words_in meets text (ts ++ t ∷ []) ≡ words_in meets text ts ++ word_of text t false ∷ []
    push_apart text before [] t h = refl
    push_apart text before (u ∷ []) t h = ap (λ b. word_of text u b ∷ word_of text t false ∷ []) h
    push_apart text before (u ∷ v ∷ ts) t h = ap (λ ws. word_of text u (touches meets u (Some v)) ∷ ws) (push_apart text (Some u) (v ∷ ts) t h)

    -- two tokens more, of which the second touches the first
    pub push_two : (text : List ℕ) (before : Option (Token K)) (ts : List (Token K)) (t₁ t₂ : Token K) → touches_last (last_of before ts) t₁ ≡ false → touches meets t₁ (Some t₂) ≡ true → words_in meets text ((ts ++ t₁ ∷ []) ++ t₂ ∷ []) ≡ words_in meets text ts ++ word_of text t₁ true ∷ word_of text t₂ false ∷ []
    push_two text before [] t₁ t₂ h k = ap (λ b. word_of text t₁ b ∷ word_of text t₂ false ∷ []) k
    push_two text before (u ∷ []) t₁ t₂ h k = (λ i. word_of text u (h i) ∷ word_of text t₁ (k i) ∷ word_of text t₂ false ∷ [])
    push_two text before (u ∷ v ∷ ts) t₁ t₂ h k = ap (λ ws. word_of text u (touches meets u (Some v)) ∷ ws) (push_two text (Some u) (v ∷ ts) t₁ t₂ h k)
