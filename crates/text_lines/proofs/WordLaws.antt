-- The first word of a line.
use Rattle.std.proofs.Common.{◌≡◌, ℕ, suc, ◌+◌, ◌<◌, Bool, true, false, not, cond, nat_eq, List, [], ◌∷◌, take, drop, length, filter, refl, sym, ap, ◌∙◌, arith}
use Rattle.std.specs.List.{prefix_len, slice_split, onto_first}
use Rattle.std.proofs.lemmas.Bool.Decides.{nat_tests}
use Rattle.text_lines.specs.Words.{is_blank, is_some_word, words_of}
use Rattle.text_lines.specs.internal.Words.{is_in_word}

one_more : (n : ℕ) → 1 + n ≡ suc n
one_more n = omega arith

-- the sizes at the front of a line, by what its first octet is

blanks_by : (octet : ℕ) (line : List ℕ) (blank : Bool) → is_blank octet ≡ blank → prefix_len is_blank (octet ∷ line) ≡ cond blank (suc (prefix_len is_blank line)) 0
blanks_by octet line true e = ap (λ (b : Bool). cond b (1 + prefix_len is_blank line) 0) e ∙ one_more (prefix_len is_blank line)
blanks_by octet line false e = ap (λ (b : Bool). cond b (1 + prefix_len is_blank line) 0) e

word_by : (octet : ℕ) (line : List ℕ) (blank : Bool) → is_blank octet ≡ blank → prefix_len is_in_word (octet ∷ line) ≡ cond blank 0 (suc (prefix_len is_in_word line))
word_by octet line true e = ap (λ (b : Bool). cond (not b) (1 + prefix_len is_in_word line) 0) e
word_by octet line false e = ap (λ (b : Bool). cond (not b) (1 + prefix_len is_in_word line) 0) e ∙ one_more (prefix_len is_in_word line)

split_by : (octet : ℕ) (line : List ℕ) (blank : Bool) → is_blank octet ≡ blank
    → slice_split is_blank (octet ∷ line) ≡ cond blank ([] ∷ slice_split is_blank line) (onto_first octet (slice_split is_blank line))
split_by octet line blank e = ap (λ (b : Bool). cond b ([] ∷ slice_split is_blank line) (onto_first octet (slice_split is_blank line))) e

-- blanks in front of a line make no difference

skip_by : (octet : ℕ) (line : List ℕ) (blank : Bool) → is_blank octet ≡ blank → words_of line ≡ words_of (drop (prefix_len is_blank line) line)
    → words_of (octet ∷ line) ≡ words_of (drop (prefix_len is_blank (octet ∷ line)) (octet ∷ line))
skip_by octet line true e later =
    ap (filter is_some_word) (split_by octet line true e) ∙ (later ∙ ap (λ (n : ℕ). words_of (drop n (octet ∷ line))) (sym (blanks_by octet line true e)))
skip_by octet line false e later = ap (λ (n : ℕ). words_of (drop n (octet ∷ line))) (sym (blanks_by octet line false e))

skipped : (line : List ℕ) → words_of line ≡ words_of (drop (prefix_len is_blank line) line)
skipped [] = refl
skipped (octet ∷ line) = skip_by octet line (is_blank octet) refl (skipped line)

-- The first part between blanks is the word in front, and the other parts are those behind it.
record Cut (line : List ℕ) (size : ℕ) : Type 0 where
  tail : List (List ℕ)
  split : slice_split is_blank line ≡ take size line ∷ tail
  rest : filter is_some_word tail ≡ words_of (drop size line)

cut_by : (octet : ℕ) (line : List ℕ) (blank : Bool) → is_blank octet ≡ blank → Cut line (prefix_len is_in_word line) → Cut (octet ∷ line) (cond blank 0 (suc (prefix_len is_in_word line)))
cut_by octet line true e later = record {
  tail = slice_split is_blank line;
  split = split_by octet line true e;
  rest = sym (ap (filter is_some_word) (split_by octet line true e));
}
cut_by octet line false e later = record {
  tail = later.tail;
  split = split_by octet line false e ∙ ap (onto_first octet) later.split;
  rest = later.rest;
}

cut_first : (line : List ℕ) → Cut line (prefix_len is_in_word line)
cut_first [] = record { tail = []; split = refl; rest = refl }
cut_first (octet ∷ line) = rw (word_by octet line (is_blank octet) refl) (cut_by octet line (is_blank octet) refl (cut_first line))

some_octet : (n : ℕ) → nat_eq (suc n) 0 ≡ false
some_octet n = grind (arith, nat_tests)

kept : (word : List ℕ) (others : List (List ℕ)) → 0 < length word → filter is_some_word (word ∷ others) ≡ word ∷ filter is_some_word others
kept [] others some = absurd (omega arith)
kept (octet ∷ word) others some = rw (some_octet (length word)) refl

-- what stands behind the blanks begins with a word, unless it is empty

begins_by : (octet : ℕ) (line : List ℕ) (blank : Bool) → is_blank octet ≡ blank
    → (0 < length (drop (prefix_len is_blank line) line) → 0 < prefix_len is_in_word (drop (prefix_len is_blank line) line))
    → 0 < length (drop (cond blank (suc (prefix_len is_blank line)) 0) (octet ∷ line))
    → 0 < prefix_len is_in_word (drop (cond blank (suc (prefix_len is_blank line)) 0) (octet ∷ line))
begins_by octet line true e later some = later some
begins_by octet line false e later some = omega (arith, word_by octet line false e)

begins : (line : List ℕ) → 0 < length (drop (prefix_len is_blank line) line) → 0 < prefix_len is_in_word (drop (prefix_len is_blank line) line)
begins [] = λ some. absurd (omega (arith, some))
begins (octet ∷ line) = rw (blanks_by octet line (is_blank octet) refl) (begins_by octet line (is_blank octet) refl (begins line))

pub first_size : (line rest : List ℕ) (blanks size : ℕ) → blanks ≡ prefix_len is_blank line → rest ≡ drop blanks line → size ≡ prefix_len is_in_word rest → 0 < length rest → 0 < size
first_size line rest blanks size blanks_is rest_is size_is some =
    let same : rest ≡ drop (prefix_len is_blank line) line = rest_is ∙ ap (λ (n : ℕ). drop n line) blanks_is in
    rw (size_is, same) (begins line (rw (← same) some))

pub first_word : (line rest word behind : List ℕ) (blanks size : ℕ) → blanks ≡ prefix_len is_blank line → rest ≡ drop blanks line → size ≡ prefix_len is_in_word rest
    → word ≡ take size rest → behind ≡ drop size rest → 0 < length word → words_of line ≡ word ∷ words_of behind
first_word line rest word behind blanks size blanks_is rest_is size_is word_is behind_is some =
    let cut : Cut rest size = rw size_is (cut_first rest) in
    skipped line ∙ (ap (λ (n : ℕ). words_of (drop n line)) (sym blanks_is) ∙ (ap words_of (sym rest_is)
    ∙ (ap (filter is_some_word) (cut.split ∙ ap (λ (w : List ℕ). w ∷ cut.tail) (sym word_is))
    ∙ (kept word cut.tail some ∙ ap (λ (ws : List (List ℕ)). word ∷ ws) (cut.rest ∙ ap words_of (sym behind_is))))))

-- where nothing stands behind the blanks there is no word

empty_words : (line : List ℕ) → length line ≡ 0 → words_of line ≡ []
empty_words [] none = refl
empty_words (octet ∷ line) none = absurd (omega (arith, none))

pub no_word : (line rest : List ℕ) (blanks : ℕ) → blanks ≡ prefix_len is_blank line → rest ≡ drop blanks line → length rest ≡ 0 → words_of line ≡ []
no_word line rest blanks blanks_is rest_is none =
    skipped line ∙ (ap (λ (n : ℕ). words_of (drop n line)) (sym blanks_is) ∙ (ap words_of (sym rest_is) ∙ empty_words rest none))
