-- The first line of a text.
use Rattle.std.proofs.Common.{◌≡◌, ℕ, zero, suc, ◌+◌, ◌<◌, ◌≤◌, Bool, true, false, cond, nat_eq, List, [], ◌∷◌, take, drop, length, refl, sym, ap, ◌∙◌, arith, add-one}
use Rattle.std.specs.List.{position_or_len, slice_split, onto_first}
use Rattle.std.specs.Str.Lines.{lines, lines_of_parts, strip_carriage_return}
use Rattle.std.proofs.lemmas.Bool.Decides.{nat_tests}
use Rattle.std.proofs.lemmas.List.{take_all, length-drop}
use Rattle.std.proofs.lemmas.List.Splits.{slice_split_first, slice_split_none}
use Rattle.std.proofs.lemmas.List.Sums.{fails_before_first}
use Rattle.std.proofs.Math.Seq.{drop-length}
use Rattle.text_lines.specs.internal.Lines.{is_line_feed}

some_octet : (n : ℕ) → nat_eq (suc n) 0 ≡ false
some_octet n = grind (arith, nat_tests)

one_part : (text : List ℕ) → 0 < length text → lines_of_parts (text ∷ []) ≡ text ∷ []
one_part [] some = absurd (omega arith)
one_part (x ∷ text) some = rw (some_octet (length text)) refl

-- a text without a line feed is one line
whole : (text : List ℕ) → 0 < length text → position_or_len is_line_feed text ≡ length text → lines text ≡ text ∷ []
whole text some all =
    ap lines_of_parts (slice_split_none is_line_feed text (λ k d lt. fails_before_first is_line_feed text k d (omega arith)))
    ∙ one_part text some

-- the end of the text ends its last line
pub last_line : (text line rest : List ℕ) (size : ℕ) → 0 < length text → size ≡ position_or_len is_line_feed text → size ≤ length text
    → line ≡ take size text → rest ≡ drop size text → length rest ≡ 0 → lines text ≡ line ∷ lines rest
last_line text line rest size some is within line_is rest_is none =
    let all : size ≡ length text = omega (arith, length-drop size text, ap length rest_is, none) in
    let same : line ≡ text = line_is ∙ take_all size text (omega (arith, all)) in
    let ended : rest ≡ [] = rest_is ∙ (ap (λ (n : ℕ). drop n text) all ∙ drop-length text) in
    whole text some (sym is ∙ all) ∙ rw (same, ended) refl

pub record Parts (parts : List (List ℕ)) : Type 0 where
  pub head : List ℕ
  pub tail : List (List ℕ)
  pub is : parts ≡ head ∷ tail

onto_parts : (x : ℕ) (parts : List (List ℕ)) → Parts (onto_first x parts)
onto_parts x [] = record { head = x ∷ []; tail = []; is = refl }
onto_parts x (part ∷ parts) = record { head = x ∷ part; tail = parts; is = refl }

split_by : (b : Bool) (x : ℕ) (parts : List (List ℕ)) → Parts (cond b ([] ∷ parts) (onto_first x parts))
split_by true x parts = record { head = []; tail = parts; is = refl }
split_by false x parts = onto_parts x parts

split_some : (text : List ℕ) → Parts (slice_split is_line_feed text)
split_some [] = record { head = []; tail = []; is = refl }
split_some (x ∷ text) = split_by (is_line_feed x) x (slice_split is_line_feed text)

strip_first : (line : List ℕ) (parts : List (List ℕ)) → Parts parts → lines_of_parts (line ∷ parts) ≡ strip_carriage_return line ∷ lines_of_parts parts
strip_first line parts some = rw some.is refl

drop_next : (xs : List ℕ) (at : ℕ) → drop 1 (drop at xs) ≡ drop (suc at) xs
drop_next [] zero = refl
drop_next [] (suc at) = refl
drop_next (x ∷ xs) zero = refl
drop_next (x ∷ xs) (suc at) = drop_next xs at

-- a line feed ends the first line
pub ended_line : (text line rest more first : List ℕ) (size : ℕ) → size ≡ position_or_len is_line_feed text → 0 < length rest
    → line ≡ take size text → rest ≡ drop size text → more ≡ drop 1 rest → first ≡ strip_carriage_return line → lines text ≡ first ∷ lines more
ended_line text line rest more first size is some line_is rest_is more_is first_is =
    let lt : size < length text = omega (arith, length-drop size text, ap length rest_is) in
    let behind : more ≡ drop (size + 1) text = more_is ∙ (ap (drop 1) rest_is ∙ (rw add-one (drop_next text size))) in
    let split = slice_split_first is_line_feed text 0 (rw (← is) lt) in
    ap lines_of_parts split
    ∙ (rw (← is, ← line_is, ← behind, first_is) (strip_first line (slice_split is_line_feed more) (split_some more)))
