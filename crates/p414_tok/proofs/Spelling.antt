-- How a token that a text begins with is written.
use Rattle.std.proofs.Common.{◌≡◌, inl, inr, nat_eq, nat_lt, zero-le, ℕ, ◌<◌, ◌≤◌, ◌-◌, ◌%◌, ◌^◌, ◌+◌, Bool, true, false, List, [], ◌∷◌, ◌++◌, length, get_or, take, drop, refl, sym, ap, ◌∙◌, subst, arith, cond, append_assoc, Option, Some, None, Result, Ok, Err}
use Rattle.std.specs.Prelude.{All, ◌||◌, ◌&&◌}
use Rattle.std.specs.List.{prefix_len, list_all, AllPass}
use Rattle.std.specs.Cmp.Lexicographic.{same_text}
use Rattle.std.proofs.Math.Nat.{eq-or-lt_of_le}
use Rattle.std.proofs.lemmas.List.{get_or-take, get_or-drop, get_or_past, length-take-le, take_more}
use Rattle.std.proofs.lemmas.List.Sums.{prefix_len-le-length, prefix_len_passes, prefix_len_stops, list_all-from_AllPass}
use Rattle.std.proofs.lemmas.Bool.{and_from}
use Rattle.std.proofs.lemmas.Bool.Decides.{nat_tests}
use Rattle.p4x_fault.specs.declared.Rule.{Rule}
use Rattle.p4x_fault.specs.declared.Rule.TheVariants.{L}
use Rattle.token_division.specs.declared.division.Token.{Token}
use Rattle.token_division.specs.declared.division.What.{What}
use Rattle.token_division.specs.declared.division.What.TheVariants as what
use Rattle.token_division.specs.Octets.{is_blank, is_letter, is_decimal, is_word}
use Rattle.token_division.specs.Pieces.{begins, mark_at, comment_size}
use Rattle.token_division.specs.declared.literals.Base.TheVariants.{Decimal}
use Rattle.token_division.specs.Literals.{value_of, literal_value, literal_size, largest}
use Rattle.token_division.specs.Layout.{IsPieceOf}
use Rattle.token_division.proofs.Places.{take-add}
use Rattle.token_division.proofs.Numbers.{is_literal}
use Rattle.token_division.proofs.Marks.{mark_begins, mark_longest}
use Rattle.p414_syntax.specs.declared.mark.Mark.{Mark}
use Rattle.p414_syntax.specs.Marks.{mark_text, all_marks}
use Rattle.p414_syntax.specs.SpeltLexemes.{is_identifier}
use Rattle.p414_syntax.proofs.AllMarks.{of_all_marks}
use Rattle.p414_tok.specs.declared.kind.TokenKind14.{TokenKind14}
use Rattle.p414_tok.specs.declared.kind.TokenKind14.TheVariants as kind
use Rattle.p414_tok.specs.declared.front.Head.{Head}
use Rattle.p414_tok.specs.declared.front.Head.TheVariants as head
use Rattle.p414_tok.specs.Lines.{pragma_size}
use Rattle.p414_tok.specs.Front.{Found, token, skipped, mark_found, number_kind, plain_number, wide_number, is_quoted, number, head_of, front_by, front}
use Rattle.p414_tok.specs.Spelled.{IsNumber, IsWideNumber, IsSpelled}

-- the kind of the token that a piece is, if it is one
kind_of_what : What TokenKind14 → Option TokenKind14
kind_of_what what.Blank = None
kind_of_what what.Skipped = None
kind_of_what (what.Token k) = Some k

pub kind_of : Found → Option TokenKind14
kind_of (Ok piece) = kind_of_what piece.what
kind_of (Err rule) = None

size_of : Found → ℕ
size_of (Ok piece) = piece.size
size_of (Err rule) = 0

skipped_kind : (r : Result ℕ Rule) → kind_of (skipped r) ≡ None
unfolding kind_of kind_of_what
skipped_kind (Ok size) = refl
skipped_kind (Err rule) = refl

-- a name
pub not_word_behind : (text : List ℕ) → is_word (get_or text (prefix_len is_word text) 0) ≡ false
not_word_behind text = elim (eq-or-lt_of_le (prefix_len-le-length is_word text)) [
  | inl e ↦ ap is_word (get_or_past text (prefix_len is_word text) 0 (omega arith))
  | inr l ↦ prefix_len_stops is_word text 0 l
]

word_prefix : (text : List ℕ) → AllPass is_word (take (prefix_len is_word text) text)
word_prefix text k d l =
    let size = prefix_len is_word text in
    let inside : k < size = omega (arith, length-take-le size text (prefix_len-le-length is_word text)) in
    ap is_word (get_or-take size text k d inside) ∙ prefix_len_passes is_word text k d inside

is_name : (text : List ℕ) → is_letter (get_or text 0 0) ≡ true → 0 < prefix_len is_word text → is_identifier (take (prefix_len is_word text) text) ≡ true
is_name text e s =
    let name = take (prefix_len is_word text) text in
    and_from (is_letter (get_or name 0 0)) (list_all is_word name) (ap is_letter (get_or-take (prefix_len is_word text) text 0 0 s) ∙ e) (list_all-from_AllPass is_word name (word_prefix text))

or_left : (a b : Bool) → a ≡ true → (a || b) ≡ true
or_left true b e = refl
or_left false b e = absurd (cc)

word_some : (text : List ℕ) → is_letter (get_or text 0 0) ≡ true → 0 < prefix_len is_word text
word_some text e = elim (eq-or-lt_of_le (zero-le {n = prefix_len is_word text})) [
  | inl z ↦ absurd (let w = sym (or_left (is_letter (get_or text 0 0)) (is_decimal (get_or text 0 0)) e) ∙ ap (λ n. is_word (get_or text n 0)) z ∙ not_word_behind text in cc)
  | inr l ↦ l
]

-- what the first octet of a piece tells
head_letter : (blank letter decimal slash at_sign number_sign : Bool) → cond blank head.Blank (cond letter head.Letter (cond decimal head.Digit (cond slash head.Slash (cond at_sign head.AtSign (cond number_sign head.NumberSign head.Other))))) ≡ head.Letter → letter ≡ true
head_letter true letter decimal slash at_sign number_sign e = absurd (cc)
head_letter false true decimal slash at_sign number_sign e = refl
head_letter false false true slash at_sign number_sign e = absurd (cc)
head_letter false false false true at_sign number_sign e = absurd (cc)
head_letter false false false false true number_sign e = absurd (cc)
head_letter false false false false false true e = absurd (cc)
head_letter false false false false false false e = absurd (cc)

starts_letter : (octet : ℕ) → head_of octet ≡ head.Letter → is_letter octet ≡ true
starts_letter octet e = head_letter (is_blank octet) (is_letter octet) (is_decimal octet) (nat_eq octet 47) (nat_eq octet 64) (nat_eq octet 35) e

head_digit : (blank letter decimal slash at_sign number_sign : Bool) → cond blank head.Blank (cond letter head.Letter (cond decimal head.Digit (cond slash head.Slash (cond at_sign head.AtSign (cond number_sign head.NumberSign head.Other))))) ≡ head.Digit → decimal ≡ true
head_digit true letter decimal slash at_sign number_sign e = absurd (cc)
head_digit false true decimal slash at_sign number_sign e = absurd (cc)
head_digit false false true slash at_sign number_sign e = refl
head_digit false false false true at_sign number_sign e = absurd (cc)
head_digit false false false false true number_sign e = absurd (cc)
head_digit false false false false false true e = absurd (cc)
head_digit false false false false false false e = absurd (cc)

starts_digit : (octet : ℕ) → head_of octet ≡ head.Digit → is_decimal octet ≡ true
starts_digit octet e = head_digit (is_blank octet) (is_letter octet) (is_decimal octet) (nat_eq octet 47) (nat_eq octet 64) (nat_eq octet 35) e

-- a name or a mark
is_name_token : (text : List ℕ) (k : TokenKind14) (size : ℕ) → is_letter (get_or text 0 0) ≡ true → kind.Name ≡ k → prefix_len is_word text ≡ size → IsSpelled k text size
is_name_token text k size e q s = subst (λ j. IsSpelled j text size) q (subst (λ n. (is_identifier (take n text) ≡ true) × (is_word (get_or text n 0) ≡ false)) s (is_name text e (word_some text e), not_word_behind text))

is_mark_token : (text : List ℕ) (k : TokenKind14) (size : ℕ) (found : Option Mark) → mark_at mark_text all_marks text ≡ found → mark_found found ≡ token k size → IsSpelled k text size
unfolding kind_of kind_of_what size_of
is_mark_token text k size None f e = absurd (let h : None ≡ Some k = ap kind_of e in cc)
is_mark_token text k size (Some m) f e =
    let q : kind.Mark m ≡ k = let h : Some (kind.Mark m) ≡ Some k = ap kind_of e in cc in
    let s : length (mark_text m) ≡ size = ap size_of e in
    let written : mark_text m ≡ take (length (mark_text m)) text = same_text (mark_text m) (take (length (mark_text m)) text) (sym (mark_begins mark_text text m all_marks f)) in
    subst (λ j. IsSpelled j text size) q (subst (λ n. (take n text ≡ mark_text m) × ((other : Mark) → begins text (mark_text other) ≡ true → length (mark_text other) ≤ n)) s
    (sym written, of_all_marks (λ other. begins text (mark_text other) ≡ true → length (mark_text other) ≤ length (mark_text m)) (mark_longest mark_text text m all_marks refl f)))

is_no_token : (found : Found) (k : TokenKind14) (size : ℕ) → kind_of found ≡ None → found ≡ token k size → ⊥
unfolding kind_of kind_of_what
is_no_token found k size n e = let h : None ≡ Some k = sym n ∙ ap kind_of e in cc

the_kind : (j k : TokenKind14) (n size : ℕ) → token j n ≡ token k size → j ≡ k
unfolding kind_of kind_of_what
the_kind j k n size e = let h : Some j ≡ Some k = ap kind_of e in cc

the_size : (j k : TokenKind14) (n size : ℕ) → token j n ≡ token k size → n ≡ size
unfolding size_of
the_size j k n size e = ap size_of e

no_kind : kind_of (Err (L 3)) ≡ None
unfolding kind_of
no_kind = refl

-- a number without a width
no_more : (a b : ℕ) → nat_lt a b ≡ false → b ≤ a
no_more a b e = grind (arith, nat_tests)

is_plain_token : (text : List ℕ) (k : TokenKind14) (size : ℕ) → is_decimal (get_or text 0 0) ≡ true → plain_number text ≡ token k size → IsSpelled k text size
is_plain_token text k size d e = go (nat_lt largest (literal_value text)) refl e
  where
    go : (t : Bool) → nat_lt largest (literal_value text) ≡ t → cond t (Err (L 3)) (token (number_kind None (literal_value text)) (literal_size text)) ≡ token k size → IsSpelled k text size
    go true f e = absurd (is_no_token (Err (L 3)) k size no_kind e)
    go false f e =
        subst (λ j. IsSpelled j text size) (the_kind (number_kind None (literal_value text)) k (literal_size text) size e)
        (subst (λ n. IsNumber None (literal_value text) (take n text)) (the_size (number_kind None (literal_value text)) k (literal_size text) size e) (is_literal text d, no_more largest (literal_value text) f))

-- a number with a width
wide_parts : (text : List ℕ) (n size : ℕ) → get_or text n 0 ≡ 39 → n < length text → take (n + 1 + size) text ≡ take n text ++ 39 ∷ take size (drop (n + 1) text)
wide_parts text n size e l =
    take-add (n + 1) size text ∙ ap (λ xs. xs ++ take size (drop (n + 1) text)) (take_more text n 0 l ∙ ap (λ x. take n text ++ x ∷ []) e)
    ∙ append_assoc (take n text) (39 ∷ []) (take size (drop (n + 1) text))

pub or_first : (a b : Bool) → (a || b) ≡ false → a ≡ false
or_first true b e = absurd (cc)
or_first false b e = refl

pub or_second : (a b : Bool) → (a || b) ≡ false → b ≡ false
or_second true b e = absurd (cc)
or_second false b e = e

is_wide : (text : List ℕ) (n width : ℕ) → AllPass is_decimal (take n text) → width ≡ value_of Decimal (take n text) → get_or text n 0 ≡ 39 → n < length text → is_decimal (get_or (drop (n + 1) text) 0 0) ≡ true → (nat_lt width 1 || (nat_lt 128 width || nat_lt largest (literal_value (drop (n + 1) text)))) ≡ false → IsWideNumber (take (n + 1 + literal_size (drop (n + 1) text)) text) width (literal_value (drop (n + 1) text) % 2 ^ width)
is_wide text n width p w q l d f =
    let over = nat_lt largest (literal_value (drop (n + 1) text)) in
    let later = or_second (nat_lt width 1) (nat_lt 128 width || over) f in
    record {
      digits = take n text;
      rest = take (literal_size (drop (n + 1) text)) (drop (n + 1) text);
      written = literal_value (drop (n + 1) text);
      parts = wide_parts text n (literal_size (drop (n + 1) text)) q l;
      has_digits = p;
      width_is = w;
      width_fits = (no_more width 1 (or_first (nat_lt width 1) (nat_lt 128 width || over) f), no_more 128 width (or_first (nat_lt 128 width) over later));
      has_number = is_literal (drop (n + 1) text) d;
      number_fits = no_more largest (literal_value (drop (n + 1) text)) (or_second (nat_lt 128 width) over later);
      value_is = refl;
    }

is_wide_token : (text : List ℕ) (n width : ℕ) (k : TokenKind14) (size : ℕ) → AllPass is_decimal (take n text) → width ≡ value_of Decimal (take n text) → get_or text n 0 ≡ 39 → n < length text → is_decimal (get_or (drop (n + 1) text) 0 0) ≡ true → wide_number width (n + 1) (drop (n + 1) text) ≡ token k size → IsSpelled k text size
is_wide_token text n width k size p w q l d e = go (nat_lt width 1 || (nat_lt 128 width || nat_lt largest (literal_value (drop (n + 1) text)))) refl e
  where
    go : (t : Bool) → (nat_lt width 1 || (nat_lt 128 width || nat_lt largest (literal_value (drop (n + 1) text)))) ≡ t → cond t (Err (L 3)) (token (number_kind (Some width) (literal_value (drop (n + 1) text) % 2 ^ width)) (n + 1 + literal_size (drop (n + 1) text))) ≡ token k size → IsSpelled k text size
    go true f e = absurd (is_no_token (Err (L 3)) k size no_kind e)
    go false f e =
        let number : TokenKind14 = number_kind (Some width) (literal_value (drop (n + 1) text) % 2 ^ width) in
        let end = n + 1 + literal_size (drop (n + 1) text) in
        subst (λ j. IsSpelled j text size) (the_kind number k end size e)
        (subst (λ m. IsWideNumber (take m text) width (literal_value (drop (n + 1) text) % 2 ^ width)) (the_size number k end size e) (is_wide text n width p w q l d f))

both_left : (a b : Bool) → (a && b) ≡ true → a ≡ true
both_left true b e = refl
both_left false b e = absurd (cc)

both_right : (a b : Bool) → (a && b) ≡ true → b ≡ true
both_right true b e = e
both_right false b e = absurd (cc)

equal : (a b : ℕ) → nat_eq a b ≡ true → a ≡ b
equal a b e = grind (arith, nat_tests)

pub inside : (text : List ℕ) (n : ℕ) → get_or text n 0 ≡ 39 → n ≤ length text → n < length text
inside text n e l = elim (eq-or-lt_of_le l) [ inl q ↦ absurd (let z = get_or_past text n 0 (omega arith) in omega (arith, z, e)) | inr m ↦ m ]

pub decimals : (text : List ℕ) → AllPass is_decimal (take (prefix_len is_decimal text) text)
decimals text k d l =
    let size = prefix_len is_decimal text in
    let within = length-take-le size text (prefix_len-le-length is_decimal text) in
    let m : k < size = omega (arith, within) in
    ap is_decimal (get_or-take size text k d m) ∙ prefix_len_passes is_decimal text k d m

is_number_token : (text : List ℕ) (k : TokenKind14) (size : ℕ) → is_decimal (get_or text 0 0) ≡ true → number text ≡ token k size → IsSpelled k text size
is_number_token text k size d e = go (is_quoted (prefix_len is_decimal text) text) refl e
  where
    go : (t : Bool) → is_quoted (prefix_len is_decimal text) text ≡ t → cond t (wide_number (value_of Decimal (take (prefix_len is_decimal text) text)) (prefix_len is_decimal text + 1) (drop (prefix_len is_decimal text + 1) text)) (plain_number text) ≡ token k size → IsSpelled k text size
    go false f e = is_plain_token text k size d e
    go true f e =
        let m = prefix_len is_decimal text in
        let quote = equal (get_or text m 0) 39 (both_left (nat_eq (get_or text m 0) 39) (is_decimal (get_or text (m + 1) 0)) f) in
        let digit = both_right (nat_eq (get_or text m 0) 39) (is_decimal (get_or text (m + 1) 0)) f in
        let at_digit : m + 1 + 0 ≡ m + 1 = omega arith in
        is_wide_token text m (value_of Decimal (take m text)) k size (decimals text) refl quote (inside text m quote (prefix_len-le-length is_decimal text)) (ap is_decimal (get_or-drop (m + 1) text 0 0 ∙ ap (λ i. get_or text i 0) at_digit) ∙ digit) e

-- a token by its first octet
pub spelled : (is_first : Bool) (text : List ℕ) (k : TokenKind14) (size : ℕ) → front is_first text ≡ token k size → IsSpelled k text size
unfolding kind_of kind_of_what
spelled is_first text k size e = by_head (head_of (get_or text 0 0)) refl e
  where
    by_head : (h : Head) → head_of (get_or text 0 0) ≡ h → front_by h is_first text ≡ token k size → IsSpelled k text size
    by_head head.Blank f e = absurd (is_no_token (Ok (record { what = what.Blank; size = 1 })) k size refl e)
    by_head head.Letter f e = is_name_token text k size (starts_letter (get_or text 0 0) f) (the_kind kind.Name k (prefix_len is_word text) size e) (the_size kind.Name k (prefix_len is_word text) size e)
    by_head head.Digit f e = is_number_token text k size (starts_digit (get_or text 0 0) f) e
    by_head head.Slash f e = absurd (is_no_token (skipped (comment_size text)) k size (skipped_kind (comment_size text)) e)
    by_head head.AtSign f e = absurd (is_no_token (skipped (pragma_size text)) k size (skipped_kind (pragma_size text)) e)
    by_head head.NumberSign f e = absurd (is_no_token (front_by head.NumberSign is_first text) k size (skipped_kind _) e)
    by_head head.Other f e = is_mark_token text k size (mark_at mark_text all_marks text) refl e

-- each token that is what the text begins with where the token begins
pub tokens_spelled : (text : List ℕ) (tokens : List (Token TokenKind14)) → All (IsPieceOf front text) tokens → All (λ t. IsSpelled t.kind (drop t.from text) (t.to - t.from)) tokens
tokens_spelled text tokens h k d l =
    let t = get_or tokens k d in
    let piece = h k d l in
    spelled piece.0 (drop t.from text) t.kind (t.to - t.from) piece.1
