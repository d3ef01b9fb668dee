-- The words of a line.
use Rattle.std.proofs.Common.{◌≡◌, ℕ, zero, suc, ◌+◌, ◌-◌, ◌<◌, ◌≤◌, Bool, true, false, ltb, Some, None, List, [], ◌∷◌, take, drop, length, map, get_or, refl, sym, ap, ◌∙◌, arith, add-one, position}
use Rattle.std.specs.List.{position_or_len}
use Rattle.std.proofs.lemmas.Bool.{lt-ltb}
use Rattle.std.proofs.lemmas.Bool.Decides.{nat_tests}
use Rattle.std.proofs.lemmas.List.{take_all, take-map, drop-map, length-drop}
use Rattle.std.proofs.lemmas.List.Sums.{position_or_len_is}
use Rattle.entries_file.specs.Forms.{AddEntry, is_arrow, divided_at, entry_form}

pub position_at : {X : Type 0} (p : X → Bool) (xs : List X) (i : ℕ) (d : X) → i < length xs → ((k : ℕ) → k < i → p (get_or xs k d) ≡ false) → p (get_or xs i d) ≡ true → position p xs ≡ Some i
position_at p xs i d lt before here =
    let at : position_or_len p xs ≡ i = position_or_len_is p xs i d (omega arith) before (λ _. here) in
    let within : ltb i (length xs) ≡ true = lt-ltb i (length xs) lt in
    rw (at, within) refl

not_under : (n : ℕ) → ltb n n ≡ false
not_under n = grind (arith, nat_tests)

pub position_none : {X : Type 0} (p : X → Bool) (xs : List X) (d : X) → ((k : ℕ) → k < length xs → p (get_or xs k d) ≡ false) → position p xs ≡ None
position_none p xs d none =
    let at : position_or_len p xs ≡ length xs = position_or_len_is p xs (length xs) d (omega arith) none (λ lt. absurd (omega arith)) in
    rw (at, not_under (length xs)) refl

-- a line of one word has no form with a table and an action
pub entry_short : {X : Type 0} (now : X → List ℕ) (words : List X) → length words < 2 → entry_form (map now words) ≡ None
entry_short now [] lt = refl
entry_short now (x ∷ []) lt = refl
entry_short now (x ∷ y ∷ words) lt = absurd (omega arith)

-- what stands behind the first two words
pub behind_two : {X : Type 0} (words : List X) → take (length words - 2) (drop 2 words) ≡ drop 2 words
behind_two words = take_all (length words - 2) (drop 2 words) (omega (arith, length-drop 2 words))

pub drop_next : {X : Type 0} (xs : List X) (at : ℕ) → drop 1 (drop at xs) ≡ drop (suc at) xs
drop_next [] zero = refl
drop_next [] (suc at) = refl
drop_next (x ∷ xs) zero = refl
drop_next (x ∷ xs) (suc at) = drop_next xs at

entry_by : {X : Type 0} (now : X → List ℕ) (words : List X) (d e : X) (at : ℕ) → 2 ≤ length words → Some at ≡ position is_arrow (map now (drop 2 words))
    → entry_form (map now words) ≡ Some (AddEntry (now (get_or words 0 d)) (now (get_or words 1 e)) (map now (take at (drop 2 words))) (map now (drop 1 (drop at (drop 2 words)))))
entry_by now [] d e at le is = absurd (omega arith)
entry_by now (x ∷ []) d e at le is = absurd (omega arith)
entry_by now (x ∷ y ∷ words) d e at le is =
    let keys : take at (map now words) ≡ map now (take at words) = take-map now at words in
    let behind : drop (at + 1) (map now words) ≡ map now (drop 1 (drop at words)) = drop-map now (at + 1) words ∙ ap (map now) (rw add-one (sym (drop_next words at))) in
    ap (divided_at (now x) (now y) (map now words)) (sym is)
    ∙ (ap (λ (ks : List (List ℕ)). Some (AddEntry (now x) (now y) ks (drop (at + 1) (map now words)))) keys
    ∙ ap (λ (bs : List (List ℕ)). Some (AddEntry (now x) (now y) (map now (take at words)) bs)) behind)

-- the form of a line that adds an entry
pub entry_at : {X : Type 0} (now : X → List ℕ) (words rest keys behind : List X) (d e : X) (at : ℕ) → 2 ≤ length words → rest ≡ take (length words - 2) (drop 2 words) → Some at ≡ position is_arrow (map now rest) → keys ≡ take at rest → behind ≡ drop 1 (drop at rest)
    → entry_form (map now words) ≡ Some (AddEntry (now (get_or words 0 d)) (now (get_or words 1 e)) (map now keys) (map now behind))
entry_at now words rest keys behind d e at le rest_is is keys_is behind_is =
    let rest_all : rest ≡ drop 2 words = rest_is ∙ behind_two words in
    let whole = entry_by now words d e at le (is ∙ ap (λ r. position is_arrow (map now r)) rest_all) in
    rw (keys_is, behind_is, rest_all) whole
