-- The lines that are taken as line markers are those of the law, and why others are none.
use Rattle.std.proofs.Common.{◌≡◌, ◌⊎◌, inl, inr, ℕ, zero, suc, ◌+◌, ◌<◌, ◌≤◌, Bool, true, false, nat_eq, nat_lt, List, [], ◌∷◌, ◌++◌, length, get_or, take, drop, refl, sym, ap, ◌∙◌, subst, arith, cond, codes, append_assoc, take-append-drop, length-append, length-drop, append-nil, take_all, drop-cons, Option, Some, None, Result, Ok, Err}
use Rattle.std.specs.Prelude.{not, ◌||◌, ◌&&◌}
use Rattle.std.specs.List.{AllPass, prefix_len, list_all}
use Rattle.std.proofs.lemmas.Bool.{and_from}
use Rattle.std.proofs.lemmas.Bool.Decides.{nat_tests}
use Rattle.std.proofs.lemmas.List.{get_or-take, get_or-drop, drop_at}
use Rattle.std.proofs.lemmas.List.Folds.{list_all-append}
use Rattle.std.proofs.lemmas.List.Sums.{prefix_len-le-length, prefix_len_stops, AllPass-from_list_all, list_all-from_AllPass}
use Rattle.p4x_fault.specs.declared.Rule.{Rule}
use Rattle.p4x_fault.specs.declared.Rule.TheVariants.{L}
use Rattle.token_division.specs.Octets.{is_blank, is_decimal, is_on_line}
use Rattle.token_division.specs.Pieces.{begins}
use Rattle.token_division.specs.Trivia.{EndsLine}
use Rattle.token_division.proofs.Numbers.{prefix_some}
use Rattle.token_division.proofs.Comments.{run_passes, run_front, begins_as, line_ends}
use Rattle.p414_tok.specs.Lines.{behind_run, is_not_quote, is_blank_or_decimal, check_numbers, check_closed, check_name, check_number, marker_word_size, check_marker, first_line, sized, marker_size}
use Rattle.p414_tok.specs.Trivia.{AreDecimals, IsMarkerStart, IsQuotedName, IsLineMarker}
use Rattle.p414_tok.specs.Refusals.{HasOpenName}

abbrev Checked : Type 0
Checked = Result (Unit {0}) Rule

equal : (a b : ℕ) → nat_eq a b ≡ true → a ≡ b
equal a b e = grind (arith, nat_tests)

-- octets that pass
pub pass_append : (p : ℕ → Bool) (xs ys : List ℕ) → AllPass p xs → AllPass p ys → AllPass p (xs ++ ys)
pass_append p xs ys h k = AllPass-from_list_all p (xs ++ ys) (list_all-append p xs ys ∙ and_from (list_all p xs) (list_all p ys) (list_all-from_AllPass p xs h) (list_all-from_AllPass p ys k))

pass_drop : (p : ℕ → Bool) (n : ℕ) (xs : List ℕ) → AllPass p xs → AllPass p (drop n xs)
pass_drop p n xs h k d l = ap p (get_or-drop n xs k d) ∙ h (n + k) d (omega (arith, length-drop n xs))

-- a marker's parts, but for the end of its line
pub record HasParts (line : List ℕ) : Type 0 where
  pub start : List ℕ
  pub name : List ℕ
  pub numbers : List ℕ
  pub parts : line ≡ start ++ (name ++ numbers)
  pub has_start : IsMarkerStart start
  pub has_name : (name ≡ []) ⊎ IsQuotedName name
  pub has_numbers : AllPass is_blank_or_decimal numbers

-- what stands behind the number and its blanks
pub record HasTail (rest : List ℕ) : Type 0 where
  pub name : List ℕ
  pub numbers : List ℕ
  pub parts : rest ≡ name ++ numbers
  pub has_name : (name ≡ []) ⊎ IsQuotedName name
  pub has_numbers : AllPass is_blank_or_decimal numbers

abbrev TailOpens : List ℕ → Type 0
TailOpens rest = (name : List ℕ) × (rest ≡ 34 ∷ name) × AllPass is_not_quote name

TailIs : List ℕ → Checked → Type 0
TailIs rest (Ok checked) = HasTail rest
TailIs rest (Err rule) = ((rule ≡ L 2) × TailOpens rest) ⊎ (rule ≡ L 4)

numbers_tail : (rest : List ℕ) (t : Bool) → list_all is_blank_or_decimal rest ≡ t → TailIs rest (cond t (Ok tt) (Err (L 4)))
unfolding TailIs
numbers_tail rest true e = record { name = []; numbers = rest; parts = refl; has_name = inl refl; has_numbers = AllPass-from_list_all is_blank_or_decimal rest e }
numbers_tail rest false e = inr refl

quote_is : (octet : ℕ) → is_not_quote octet ≡ false → octet ≡ 34
quote_is octet e = equal octet 34 (by (nat_eq octet 34) e)
  where
    by : (t : Bool) → not t ≡ false → t ≡ true
    by true e = refl
    by false e = absurd (cc)

closed_parts : (inner : List ℕ) → prefix_len is_not_quote inner < length inner → 34 ∷ inner ≡ (34 ∷ (take (prefix_len is_not_quote inner) inner ++ 34 ∷ [])) ++ drop (prefix_len is_not_quote inner + 1) inner
closed_parts inner l =
    let size = prefix_len is_not_quote inner in
    let quote : get_or inner size 0 ≡ 34 = quote_is (get_or inner size 0) (prefix_len_stops is_not_quote inner 0 l) in
    let next : suc size ≡ size + 1 = omega arith in
    ap (λ xs. 34 ∷ xs) (sym (take-append-drop size inner) ∙ ap (λ xs. take size inner ++ xs) (drop-cons inner size 0 l ∙ (λ i. quote i ∷ drop (next i) inner))
    ∙ sym (append_assoc (take size inner) (34 ∷ []) (drop (size + 1) inner)))

closed_tail : (inner : List ℕ) (l : prefix_len is_not_quote inner < length inner) (t : Bool) → list_all is_blank_or_decimal (drop (prefix_len is_not_quote inner + 1) inner) ≡ t → TailIs (34 ∷ inner) (cond t (Ok tt) (Err (L 4)))
unfolding TailIs
closed_tail inner l true e =
    let size = prefix_len is_not_quote inner in
    record {
      name = 34 ∷ (take size inner ++ 34 ∷ []);
      numbers = drop (size + 1) inner;
      parts = closed_parts inner l;
      has_name = inr (take size inner, refl, run_passes is_not_quote inner);
      has_numbers = AllPass-from_list_all is_blank_or_decimal (drop (size + 1) inner) e;
    }
closed_tail inner l false e = inr refl

open_tail : (inner : List ℕ) → length inner ≤ prefix_len is_not_quote inner → TailIs (34 ∷ inner) (Err (L 2))
unfolding TailIs
open_tail inner l = inl (refl, (inner, refl, subst (AllPass is_not_quote) (take_all (prefix_len is_not_quote inner) inner l) (run_passes is_not_quote inner)))

less : (a b : ℕ) → nat_lt a b ≡ true → a < b
less a b e = grind (arith, nat_tests)

no_less : (a b : ℕ) → nat_lt a b ≡ false → b ≤ a
no_less a b e = grind (arith, nat_tests)

quoted_tail : (inner : List ℕ) (t : Bool) → nat_lt (prefix_len is_not_quote inner) (length inner) ≡ t → TailIs (34 ∷ inner) (cond t (check_numbers (drop (prefix_len is_not_quote inner + 1) inner)) (Err (L 2)))
quoted_tail inner true e = closed_tail inner (less (prefix_len is_not_quote inner) (length inner) e) (list_all is_blank_or_decimal (drop (prefix_len is_not_quote inner + 1) inner)) refl
quoted_tail inner false e = open_tail inner (no_less (prefix_len is_not_quote inner) (length inner) e)

tail_is : (rest : List ℕ) → TailIs rest (check_name rest)
tail_is [] = numbers_tail [] (list_all is_blank_or_decimal []) refl
tail_is (octet ∷ inner) = by (nat_eq octet 34) refl
  where
    by : (t : Bool) → nat_eq octet 34 ≡ t → TailIs (octet ∷ inner) (cond t (check_closed (prefix_len is_not_quote inner) inner) (check_numbers (octet ∷ inner)))
    by true e = subst (λ x. TailIs (x ∷ inner) (check_closed (prefix_len is_not_quote inner) inner)) (sym (equal octet 34 e)) (quoted_tail inner (nat_lt (prefix_len is_not_quote inner) (length inner)) refl)
    by false e = numbers_tail (octet ∷ inner) (list_all is_blank_or_decimal (octet ∷ inner)) refl

-- the parts of a line, one behind the other
abbrev behind_word : List ℕ → List ℕ
behind_word line = drop (marker_word_size line) line

abbrev from_number : List ℕ → List ℕ
from_number line = behind_run is_blank (behind_word line)

abbrev behind_number : List ℕ → List ℕ
behind_number line = behind_run is_decimal (from_number line)

abbrev from_name : List ℕ → List ℕ
from_name line = behind_run is_blank (behind_number line)

abbrev run_of : (ℕ → Bool) → List ℕ → List ℕ
run_of p xs = take (prefix_len p xs) xs

abbrev start_of : List ℕ → List ℕ
start_of line = take (marker_word_size line) line ++ (run_of is_blank (behind_word line) ++ (run_of is_decimal (from_number line) ++ run_of is_blank (behind_number line)))

join : (a b c d e : List ℕ) → (a ++ (b ++ (c ++ d))) ++ e ≡ a ++ (b ++ (c ++ (d ++ e)))
join a b c d e = append_assoc a (b ++ (c ++ d)) e ∙ ap (λ x. a ++ x) (append_assoc b (c ++ d) e ∙ ap (λ x. b ++ x) (append_assoc c d e))

start_parts : (line : List ℕ) → line ≡ start_of line ++ from_name line
start_parts line =
    sym (take-append-drop (marker_word_size line) line)
    ∙ ap (λ x. take (marker_word_size line) line ++ x) (sym (take-append-drop (prefix_len is_blank (behind_word line)) (behind_word line))
    ∙ ap (λ x. run_of is_blank (behind_word line) ++ x) (sym (take-append-drop (prefix_len is_decimal (from_number line)) (from_number line))
    ∙ ap (λ x. run_of is_decimal (from_number line) ++ x) (sym (take-append-drop (prefix_len is_blank (behind_number line)) (behind_number line)))))
    ∙ sym (join (take (marker_word_size line) line) (run_of is_blank (behind_word line)) (run_of is_decimal (from_number line)) (run_of is_blank (behind_number line)) (from_name line))

the_word : (line : List ℕ) → get_or line 0 0 ≡ 35 → (take (marker_word_size line) line ≡ codes "#") ⊎ (take (marker_word_size line) line ≡ codes "#line")
the_word [] e = absurd (cc)
the_word (octet ∷ line) e = by (begins (octet ∷ line) (codes "#line")) refl
  where
    by : (t : Bool) → begins (octet ∷ line) (codes "#line") ≡ t → (take (cond t 5 1) (octet ∷ line) ≡ codes "#") ⊎ (take (cond t 5 1) (octet ∷ line) ≡ codes "#line")
    by true b = inr (begins_as (octet ∷ line) (codes "#line") b)
    by false b = inl (ap (λ x. x ∷ []) e)

decimals_at : (text : List ℕ) → is_decimal (get_or text 0 0) ≡ true → AreDecimals (run_of is_decimal text)
decimals_at text e = (ap is_decimal (get_or-take (prefix_len is_decimal text) text 0 0 (prefix_some is_decimal text e refl)) ∙ e, run_passes is_decimal text)

is_start : (line : List ℕ) → get_or line 0 0 ≡ 35 → is_decimal (get_or (from_number line) 0 0) ≡ true → IsMarkerStart (start_of line)
is_start line h e = record {
  word = take (marker_word_size line) line;
  gap = run_of is_blank (behind_word line);
  number = run_of is_decimal (from_number line);
  space = run_of is_blank (behind_number line);
  parts = refl;
  has_word = the_word line h;
  has_gap = run_passes is_blank (behind_word line);
  has_number = decimals_at (from_number line) e;
  has_space = run_passes is_blank (behind_number line);
}

MarkerIs : List ℕ → Checked → Type 0
MarkerIs line (Ok checked) = HasParts line
MarkerIs line (Err rule) = ((rule ≡ L 2) × HasOpenName line) ⊎ (rule ≡ L 4)

with_tail : (line start rest : List ℕ) → line ≡ start ++ rest → IsMarkerStart start → (r : Checked) → TailIs rest r → MarkerIs line r
unfolding TailIs MarkerIs
with_tail line start rest e s (Ok checked) h = record {
  start = start;
  name = h.name;
  numbers = h.numbers;
  parts = e ∙ ap (λ x. start ++ x) h.parts;
  has_start = s;
  has_name = h.has_name;
  has_numbers = h.has_numbers;
}
with_tail line start rest e s (Err rule) (inl h) = inl (h.0, (start, h.1.0, e ∙ ap (λ x. start ++ x) h.1.1, s, h.1.2))
with_tail line start rest e s (Err rule) (inr h) = inr h

no_number : (line : List ℕ) → MarkerIs line (Err (L 4))
unfolding MarkerIs
no_number line = inr refl

marker_is : (line : List ℕ) → get_or line 0 0 ≡ 35 → MarkerIs line (check_marker line)
marker_is line h = by (is_decimal (get_or (from_number line) 0 0)) refl
  where
    by : (t : Bool) → is_decimal (get_or (from_number line) 0 0) ≡ t → MarkerIs line (cond t (check_name (from_name line)) (Err (L 4)))
    by true e = with_tail line (start_of line) (from_name line) (start_parts line) (is_start line h e) (check_name (from_name line)) (tail_is (from_name line))
    by false e = no_number line

-- a line of the law is taken
nothing_passes : (p : ℕ → Bool) (rest : List ℕ) → p (get_or rest 0 0) ≡ false → prefix_len p rest ≡ 0
nothing_passes p [] e = refl
nothing_passes p (octet ∷ rest) e = ap (λ t. cond t (1 + prefix_len p rest) 0) e

run_ends : (p : ℕ → Bool) (run rest : List ℕ) → AllPass p run → p (get_or rest 0 0) ≡ false → behind_run p (run ++ rest) ≡ rest
run_ends p run rest h e =
    let size : prefix_len p (run ++ rest) ≡ length run = omega (arith, run_front p run rest h, nothing_passes p rest e) in
    ap (λ n. drop n (run ++ rest)) size ∙ drop_at run rest (length run) refl

blank_no_decimal : (octet : ℕ) → is_blank octet ≡ true → is_decimal octet ≡ false
blank_no_decimal octet e = grind (arith, nat_tests)

decimal_no_blank : (octet : ℕ) → is_decimal octet ≡ true → is_blank octet ≡ false
decimal_no_blank octet e = grind (arith, nat_tests)

number_head : (number rest : List ℕ) → AreDecimals number → is_decimal (get_or (number ++ rest) 0 0) ≡ true
number_head [] rest h = absurd (let z : is_decimal 0 ≡ true = h.0 in cc)
number_head (octet ∷ number) rest h = h.0

or_left : (a b : Bool) → a ≡ true → (a || b) ≡ true
or_left true b e = refl
or_left false b e = absurd (cc)

or_right : (a b : Bool) → b ≡ true → (a || b) ≡ true
or_right true b e = refl
or_right false b e = e

gap_head : (gap rest : List ℕ) → AllPass is_blank gap → is_decimal (get_or rest 0 0) ≡ true → is_blank_or_decimal (get_or (gap ++ rest) 0 0) ≡ true
gap_head [] rest h e = or_right (is_blank (get_or rest 0 0)) (is_decimal (get_or rest 0 0)) e
gap_head (octet ∷ gap) rest h e = or_left (is_blank octet) (is_decimal octet) (h 0 0 (omega arith))

no_line_word : (tail : List ℕ) → is_blank_or_decimal (get_or tail 0 0) ≡ true → begins (35 ∷ tail) (codes "#line") ≡ false
no_line_word tail e = by (begins (35 ∷ tail) (codes "#line")) refl
  where
    head : (tail : List ℕ) → take 5 (35 ∷ tail) ≡ codes "#line" → get_or tail 0 0 ≡ 108
    head [] e = absurd (cc)
    head (octet ∷ tail) e = ap (λ xs. get_or xs 1 0) e

    by : (t : Bool) → begins (35 ∷ tail) (codes "#line") ≡ t → t ≡ false
    by false b = refl
    by true b = absurd (let l = head tail (begins_as (35 ∷ tail) (codes "#line") b) in let f : is_blank_or_decimal 108 ≡ true = sym (ap is_blank_or_decimal l) ∙ e in cc)

word_ends : (word tail : List ℕ) → (word ≡ codes "#") ⊎ (word ≡ codes "#line") → is_blank_or_decimal (get_or tail 0 0) ≡ true → behind_word (word ++ tail) ≡ tail
word_ends word tail (inl w) e =
    ap (λ xs. behind_word (xs ++ tail)) w ∙ ap (λ t. drop (cond t 5 1) (35 ∷ tail)) (no_line_word tail e)
word_ends word tail (inr w) e = ap (λ xs. behind_word (xs ++ tail)) w

-- what is asked of a line with the start of a marker
abbrev behind_start : List ℕ → List ℕ → List ℕ → List ℕ
behind_start number space rest = behind_run is_blank (behind_run is_decimal (number ++ (space ++ rest)))

start_taken : (start rest : List ℕ) (s : IsMarkerStart start) → check_marker (start ++ rest) ≡ check_name (behind_start s.number s.space rest)
start_taken start rest s =
    let tail = s.number ++ (s.space ++ rest) in
    let decimal = number_head s.number (s.space ++ rest) s.has_number in
    ap (λ xs. check_marker (xs ++ rest)) s.parts ∙ ap check_marker (join s.word s.gap s.number s.space rest)
    ∙ ap (λ xs. check_number (behind_run is_blank xs)) (word_ends s.word (s.gap ++ tail) s.has_word (gap_head s.gap tail s.has_gap decimal))
    ∙ ap check_number (run_ends is_blank s.gap tail s.has_gap (decimal_no_blank (get_or tail 0 0) decimal))
    ∙ ap (λ t. cond t (check_name (behind_start s.number s.space rest)) (Err (L 4))) decimal

not_a_quote : (octet : ℕ) → is_blank_or_decimal octet ≡ true → nat_eq octet 34 ≡ false
not_a_quote octet e = grind (arith, nat_tests)

numbers_taken : (rest : List ℕ) → AllPass is_blank_or_decimal rest → check_name rest ≡ Ok tt
numbers_taken [] h = refl
numbers_taken (octet ∷ rest) h =
    ap (λ t. cond t (check_closed (prefix_len is_not_quote rest) rest) (check_numbers (octet ∷ rest))) (not_a_quote octet (h 0 0 (omega arith)))
    ∙ ap (λ t. cond t (Ok tt) (Err (L 4))) (list_all-from_AllPass is_blank_or_decimal (octet ∷ rest) h)

blank_passes : (run : List ℕ) → AllPass is_blank run → AllPass is_blank_or_decimal run
blank_passes run h k d l = or_left (is_blank (get_or run k d)) (is_decimal (get_or run k d)) (h k d l)

decimal_passes : (run : List ℕ) → AllPass is_decimal run → AllPass is_blank_or_decimal run
decimal_passes run h k d l = or_right (is_blank (get_or run k d)) (is_decimal (get_or run k d)) (h k d l)

unnamed_taken : (number space rest : List ℕ) → AreDecimals number → AllPass is_blank space → AllPass is_blank_or_decimal rest → check_name (behind_start number space rest) ≡ Ok tt
unnamed_taken number space rest n s h =
    let all = pass_append is_blank_or_decimal number (space ++ rest) (decimal_passes number n.1) (pass_append is_blank_or_decimal space rest (blank_passes space s) h) in
    let behind = behind_run is_decimal (number ++ (space ++ rest)) in
    numbers_taken (behind_start number space rest) (pass_drop is_blank_or_decimal (prefix_len is_blank behind) behind (pass_drop is_blank_or_decimal (prefix_len is_decimal (number ++ (space ++ rest))) (number ++ (space ++ rest)) all))

space_head : (space rest : List ℕ) → AllPass is_blank space → is_decimal (get_or rest 0 0) ≡ false → is_decimal (get_or (space ++ rest) 0 0) ≡ false
space_head [] rest h e = e
space_head (octet ∷ space) rest h e = blank_no_decimal octet (h 0 0 (omega arith))

name_found : (number space inner : List ℕ) → AreDecimals number → AllPass is_blank space → behind_start number space (34 ∷ inner) ≡ 34 ∷ inner
name_found number space inner n s =
    ap (behind_run is_blank) (run_ends is_decimal number (space ++ 34 ∷ inner) n.1 (space_head space (34 ∷ inner) s refl))
    ∙ run_ends is_blank space (34 ∷ inner) s refl

name_closes : (name numbers : List ℕ) → AllPass is_not_quote name → AllPass is_blank_or_decimal numbers → check_name (34 ∷ (name ++ 34 ∷ numbers)) ≡ Ok tt
name_closes name numbers n h =
    let inner = name ++ 34 ∷ numbers in
    let stop : prefix_len is_not_quote (34 ∷ numbers) ≡ 0 = nothing_passes is_not_quote (34 ∷ numbers) refl in
    let size : prefix_len is_not_quote inner ≡ length name = omega (arith, run_front is_not_quote name (34 ∷ numbers) n, stop) in
    let within : nat_lt (length name) (length inner) ≡ true = (let l = length-append name (34 ∷ numbers) in let m : length name < length inner = omega (arith, l) in grind (arith, nat_tests)) in
    let behind : drop (length name + 1) inner ≡ numbers = ap (drop (length name + 1)) (sym (append_assoc name (34 ∷ []) numbers)) ∙ drop_at (name ++ 34 ∷ []) numbers (length name + 1) (length-append name (34 ∷ [])) in
    ap (λ k. check_closed k inner) size ∙ ap (λ t. cond t (check_numbers (drop (length name + 1) inner)) (Err (L 2))) within ∙ ap check_numbers behind
    ∙ ap (λ t. cond t (Ok tt) (Err (L 4))) (list_all-from_AllPass is_blank_or_decimal numbers h)

named_taken : (number space name numbers : List ℕ) → AreDecimals number → AllPass is_blank space → IsQuotedName name → AllPass is_blank_or_decimal numbers → check_name (behind_start number space (name ++ numbers)) ≡ Ok tt
named_taken number space name numbers n s q h =
    let whole : name ++ numbers ≡ 34 ∷ (q.0 ++ 34 ∷ numbers) = ap (λ xs. xs ++ numbers) q.1 ∙ ap (λ xs. 34 ∷ xs) (append_assoc q.0 (34 ∷ []) numbers) in
    ap (λ xs. check_name (behind_start number space xs)) whole ∙ ap check_name (name_found number space (q.0 ++ 34 ∷ numbers) n s) ∙ name_closes q.0 numbers q.2 h

pub parts_taken : (line : List ℕ) → IsLineMarker line → check_marker line ≡ Ok tt
parts_taken line m = ap check_marker m.parts ∙ start_taken m.start (m.name ++ m.numbers) m.has_start ∙ by m.has_name
  where
    by : (m.name ≡ []) ⊎ IsQuotedName m.name → check_name (behind_start m.has_start.number m.has_start.space (m.name ++ m.numbers)) ≡ Ok tt
    by (inl e) = ap (λ xs. check_name (behind_start m.has_start.number m.has_start.space (xs ++ m.numbers))) e ∙ unnamed_taken m.has_start.number m.has_start.space m.numbers m.has_start.has_number m.has_start.has_space m.has_numbers
    by (inr q) = named_taken m.has_start.number m.has_start.space m.name m.numbers m.has_start.has_number m.has_start.has_space q m.has_numbers

-- a line whose name isn't closed is refused for it
opened_refused : (name : List ℕ) → AllPass is_not_quote name → check_name (34 ∷ name) ≡ Err (L 2)
opened_refused name h =
    let size : prefix_len is_not_quote name ≡ length name = ap (prefix_len is_not_quote) (sym (append-nil name)) ∙ run_front is_not_quote name [] h ∙ omega arith in
    let past : nat_lt (length name) (length name) ≡ false = grind (arith, nat_tests) in
    ap (λ k. check_closed k name) size ∙ ap (λ t. cond t (check_numbers (drop (length name + 1) name)) (Err (L 2))) past

pub open_refused : (line : List ℕ) → HasOpenName line → check_marker line ≡ Err (L 2)
open_refused line h =
    let s = h.3 in
    ap check_marker h.2 ∙ start_taken h.0 (34 ∷ h.1) s ∙ ap check_name (name_found s.number s.space h.1 s.has_number s.has_space) ∙ opened_refused h.1 h.4

-- the first line of a text
first_head : (text : List ℕ) → get_or text 0 0 ≡ 35 → get_or (first_line text) 0 0 ≡ 35
first_head [] e = absurd (cc)
first_head (octet ∷ text) e =
    let on : is_on_line octet ≡ true = ap is_on_line e in
    let k = ap (λ t. cond t (1 + prefix_len is_on_line text) 0) on in
    get_or-take (prefix_len is_on_line (octet ∷ text)) (octet ∷ text) 0 0 (omega (arith, k)) ∙ e

parts_mark : (text : List ℕ) → HasParts (first_line text) → IsLineMarker (first_line text)
parts_mark text h = record { start = h.start; name = h.name; numbers = h.numbers; parts = h.parts; has_start = h.has_start; has_name = h.has_name; has_numbers = h.has_numbers; on_line = run_passes is_on_line text }

-- what is taken as a line marker is one
pub marker_taken : (text : List ℕ) (size : ℕ) → get_or text 0 0 ≡ 35 → marker_size text ≡ Ok size → IsLineMarker (take size text) × EndsLine (drop size text)
unfolding MarkerIs
marker_taken text size h e = by (check_marker (first_line text)) (marker_is (first_line text) (first_head text h)) e
  where
    by : (r : Checked) → MarkerIs (first_line text) r → sized r (prefix_len is_on_line text) ≡ Ok size → IsLineMarker (take size text) × EndsLine (drop size text)
    by (Ok checked) m e = let q : prefix_len is_on_line text ≡ size = cc in subst (λ n. IsLineMarker (take n text) × EndsLine (drop n text)) q (parts_mark text m, line_ends text)
    by (Err rule) m e = absurd (cc)

-- a line that isn't taken has an open name, or is no line marker and has none
abbrev pub IsWrongMarker : List ℕ → Rule → Type 0
IsWrongMarker text rule = ((rule ≡ L 2) × HasOpenName (first_line text)) ⊎ ((rule ≡ L 4) × (IsLineMarker (first_line text) → ⊥) × (HasOpenName (first_line text) → ⊥))

other_rule : (L 2 ≡ L 4) → ⊥
other_rule e = absurd (cc)

pub marker_refused : (text : List ℕ) (rule : Rule) → get_or text 0 0 ≡ 35 → marker_size text ≡ Err rule → IsWrongMarker text rule
unfolding MarkerIs
marker_refused text rule h e = by (check_marker (first_line text)) refl (marker_is (first_line text) (first_head text h)) e
  where
    by : (r : Checked) → check_marker (first_line text) ≡ r → MarkerIs (first_line text) r → sized r (prefix_len is_on_line text) ≡ Err rule → IsWrongMarker text rule
    by (Ok checked) f m e = absurd (cc)
    by (Err other) f (inl m) e = let q : other ≡ rule = cc in inl (sym q ∙ m.0, m.1)
    by (Err other) f (inr m) e = let q : other ≡ rule = cc in inr (
      sym q ∙ m,
      (λ k. absurd (let g = sym (parts_taken (first_line text) k) ∙ f in cc)),
      λ k. other_rule (let two : L 2 ≡ other = (let g = sym (open_refused (first_line text) k) ∙ f in cc) in two ∙ m),
    )
