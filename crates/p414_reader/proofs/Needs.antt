-- Attributes that are needed: whether their words stand among others, and among these and more.
use Rattle.std.proofs.Common.{◌≡◌, ℕ, Bool, true, false, List, [], ◌∷◌, ◌++◌, map, refl, sym, ap, ◌∙◌, bytes_eq}
use Rattle.p414_syntax.specs.Conditions.{is_among, has_word}
use Rattle.predictive_parser.specs.Values.{newest, extended}
use Rattle.p414_reader.proofs.Lists.{map_one, text_is, neither_left, neither_right, neither_of}

-- where none of the needed words stands, this one stands not
pub not_needed : (needed : List (List ℕ)) (word : List ℕ) (words : List (List ℕ)) → is_among word needed ≡ true → has_word needed words ≡ false → is_among word words ≡ false
not_needed needed word [] n h = refl
not_needed needed word (w ∷ words) n h =
    neither_of (bytes_eq word w) (is_among word words) (go (bytes_eq word w) refl)
    (not_needed needed word words n (neither_right (is_among w needed) (has_word needed words) h))
  where
    go : (b : Bool) → bytes_eq word w ≡ b → b ≡ false
    go true e = sym n ∙ ap (λ (t : List ℕ). is_among t needed) (sym (text_is word w e)) ∙ neither_left (is_among w needed) (has_word needed words) h
    go false e = refl

pub has_word_one : (needed : List (List ℕ)) (word : List ℕ) (words : List (List ℕ)) → has_word needed words ≡ false → is_among word needed ≡ false → has_word needed (words ++ word ∷ []) ≡ false
has_word_one needed word [] h n = neither_of (is_among word needed) false n refl
has_word_one needed word (w ∷ words) h n =
    neither_of (is_among w needed) (has_word needed (words ++ word ∷ [])) (neither_left (is_among w needed) (has_word needed words) h)
    (has_word_one needed word words (neither_right (is_among w needed) (has_word needed words) h) n)

-- an attribute that isn't needed, behind attributes of which none is needed
pub still_needed : {A : Type 0} (word_of : A → List ℕ) (needed : List (List ℕ)) (x : A) (lists : List (List A)) → is_among (word_of x) needed ≡ false → has_word needed (map word_of (newest [] lists)) ≡ false → has_word needed (map word_of (newest [] (extended (x ∷ []) lists))) ≡ false
still_needed word_of needed x [] n h = neither_of (is_among (word_of x) needed) false n refl
still_needed word_of needed x (list ∷ lists) n h =
    ap (λ (l : List (List ℕ)). has_word needed l) (map_one word_of x list) ∙ has_word_one needed (word_of x) (map word_of list) h n
