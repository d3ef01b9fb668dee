-- What stands where a piece is refused.
use Rattle.std.proofs.Common.{◌≡◌, ◌⊎◌, inl, inr, nat_eq, nat_lt, ℕ, zero, suc, ◌+◌, ◌%◌, ◌^◌, ◌<◌, ◌≤◌, Bool, true, false, List, [], ◌∷◌, ◌++◌, length, get_or, take, drop, refl, sym, ap, ◌∙◌, subst, arith, cond, codes, take-append-drop, drop-cons, Option, Some, None, Result, Ok, Err}
use Rattle.std.specs.Prelude.{not, ◌||◌, ◌&&◌, All}
use Rattle.std.specs.List.{AllPass, prefix_len, list_any}
use Rattle.std.proofs.lemmas.List.{get_or-drop}
use Rattle.std.proofs.lemmas.List.Sums.{prefix_len-le-length}
use Rattle.std.proofs.lemmas.Bool.Decides.{nat_tests}
use Rattle.p4x_fault.specs.declared.Rule.{Rule}
use Rattle.p4x_fault.specs.declared.Rule.TheVariants.{L}
use Rattle.token_division.specs.declared.literals.Base.TheVariants.{Decimal}
use Rattle.token_division.specs.Octets.{is_blank, is_letter, is_decimal, is_word, is_on_line}
use Rattle.token_division.specs.Pieces.{begins, mark_at, comment_size}
use Rattle.token_division.specs.Literals.{value_of, literal_value, literal_size, largest}
use Rattle.token_division.specs.Trivia.{IsFirstOnLine}
use Rattle.token_division.proofs.Numbers.{is_literal}
use Rattle.token_division.proofs.LineStarts.{opens, is_first_on_line, not_first_on_line}
use Rattle.token_division.proofs.Comments.{begins_as, IsNoComment, comment_refused}
use Rattle.p414_syntax.specs.declared.mark.Mark.{Mark}
use Rattle.p414_syntax.specs.Marks.{mark_text, all_marks}
use Rattle.p414_syntax.proofs.AllMarks.{of_all_marks}
use Rattle.p414_tok.specs.declared.front.Head.{Head}
use Rattle.p414_tok.specs.declared.front.Head.TheVariants as head
use Rattle.p414_tok.specs.Lines.{marker_size, pragma_size, is_pragma}
use Rattle.p414_tok.specs.Front.{Found, token, skipped, mark_found, mark, number_kind, plain_number, wide_number, is_quoted, number, head_of, front_by, front}
use Rattle.p414_tok.specs.Refusals.{BeginsNothing, BeginsOpen, BeginsLargeNumber, BeginsMisfit, BeginsWrongNumber, IsBrokenAt}
use Rattle.p414_tok.proofs.Spelling.{decimals, inside, or_first, or_second}
use Rattle.p414_tok.proofs.Markers.{marker_refused}
use Rattle.p414_tok.proofs.Heads.{HeadIs, head_is, IsOther}

-- a refusal
abbrev IsRefused : Found → Type 0
IsRefused (Ok piece) = ⊥
IsRefused (Err rule) = Unit {0}

abbrev rule_of : Found → Rule
rule_of (Ok piece) = L 0
rule_of (Err rule) = rule

abbrev refused : Rule → Found
refused rule = Err rule

-- L3
less : (a b : ℕ) → nat_lt a b ≡ true → a < b
less a b e = grind (arith, nat_tests)

large : (text : List ℕ) → is_decimal (get_or text 0 0) ≡ true → nat_lt largest (literal_value text) ≡ true → BeginsLargeNumber text
large text d e = (literal_size text, literal_value text, is_literal text d, less largest (literal_value text) e)

IsWrongBy : List ℕ → Found → Type 0
IsWrongBy text (Ok piece) = Unit {0}
IsWrongBy text (Err rule) = (rule ≡ L 3) × BeginsWrongNumber text

plain_wrong : (text : List ℕ) → is_decimal (get_or text 0 0) ≡ true → IsWrongBy text (plain_number text)
unfolding IsWrongBy
plain_wrong text d = by (nat_lt largest (literal_value text)) refl
  where
    by : (t : Bool) → nat_lt largest (literal_value text) ≡ t → IsWrongBy text (cond t (Err (L 3)) (token (number_kind None (literal_value text)) (literal_size text)))
    by true e = (refl, inl (large text d e))
    by false e = tt

misfit : (low high over : Bool) → (low || (high || over)) ≡ true → (low ≡ true) ⊎ ((high ≡ true) ⊎ (over ≡ true))
misfit true high over e = inl refl
misfit false true over e = inr (inl refl)
misfit false false over e = inr (inr e)

wide_misfit : (text digits rest : List ℕ) → text ≡ digits ++ 39 ∷ rest → AllPass is_decimal digits → is_decimal (get_or rest 0 0) ≡ true → (nat_lt (value_of Decimal digits) 1 || (nat_lt 128 (value_of Decimal digits) || nat_lt largest (literal_value rest))) ≡ true → BeginsMisfit text
wide_misfit text digits rest p h d e =
    let width = value_of Decimal digits in
    record {
      digits = digits;
      rest = rest;
      parts = p;
      has_digits = h;
      has_number = d;
      misfits = elim (misfit (nat_lt width 1) (nat_lt 128 width) (nat_lt largest (literal_value rest)) e) [
        | inl low ↦ inl (less width 1 low)
        | inr later ↦ elim later [ inl high ↦ inr (inl (less 128 width high)) | inr over ↦ inr (inr (large rest d over)) ]
      ];
    }

wide_wrong : (text : List ℕ) → is_quoted (prefix_len is_decimal text) text ≡ true → IsWrongBy text (wide_number (value_of Decimal (take (prefix_len is_decimal text) text)) (prefix_len is_decimal text + 1) (drop (prefix_len is_decimal text + 1) text))
unfolding IsWrongBy
wide_wrong text q =
    let m = prefix_len is_decimal text in
    let width = value_of Decimal (take m text) in
    by (nat_lt width 1 || (nat_lt 128 width || nat_lt largest (literal_value (drop (m + 1) text)))) refl
  where
    both_left : (a b : Bool) → (a && b) ≡ true → a ≡ true
    both_left true b e = refl
    both_left false b e = absurd (cc)

    both_right : (a b : Bool) → (a && b) ≡ true → b ≡ true
    both_right true b e = e
    both_right false b e = absurd (cc)

    equal : (a b : ℕ) → nat_eq a b ≡ true → a ≡ b
    equal a b e = grind (arith, nat_tests)

    quote : get_or text (prefix_len is_decimal text) 0 ≡ 39
    quote = equal (get_or text (prefix_len is_decimal text) 0) 39 (both_left (nat_eq (get_or text (prefix_len is_decimal text) 0) 39) (is_decimal (get_or text (prefix_len is_decimal text + 1) 0)) q)

    parts : text ≡ take (prefix_len is_decimal text) text ++ 39 ∷ drop (prefix_len is_decimal text + 1) text
    parts =
        let m = prefix_len is_decimal text in
        let next : suc m ≡ m + 1 = omega arith in
        sym (take-append-drop m text) ∙ ap (λ xs. take m text ++ xs) (drop-cons text m 0 (inside text m quote (prefix_len-le-length is_decimal text)) ∙ (λ i. quote i ∷ drop (next i) text))

    digit : is_decimal (get_or (drop (prefix_len is_decimal text + 1) text) 0 0) ≡ true
    digit =
        let m = prefix_len is_decimal text in
        let same : m + 1 + 0 ≡ m + 1 = omega arith in
        ap is_decimal (get_or-drop (m + 1) text 0 0 ∙ ap (λ k. get_or text k 0) same) ∙ both_right (nat_eq (get_or text m 0) 39) (is_decimal (get_or text (m + 1) 0)) q

    by : (t : Bool) → (nat_lt (value_of Decimal (take (prefix_len is_decimal text) text)) 1 || (nat_lt 128 (value_of Decimal (take (prefix_len is_decimal text) text)) || nat_lt largest (literal_value (drop (prefix_len is_decimal text + 1) text)))) ≡ t → IsWrongBy text (cond t (Err (L 3)) (token (number_kind (Some (value_of Decimal (take (prefix_len is_decimal text) text))) (literal_value (drop (prefix_len is_decimal text + 1) text) % 2 ^ value_of Decimal (take (prefix_len is_decimal text) text))) (prefix_len is_decimal text + 1 + literal_size (drop (prefix_len is_decimal text + 1) text))))
    by true e = (refl, inr (wide_misfit text (take (prefix_len is_decimal text) text) (drop (prefix_len is_decimal text + 1) text) parts (decimals text) digit e))
    by false e = tt

number_wrong : (text : List ℕ) → is_decimal (get_or text 0 0) ≡ true → IsWrongBy text (number text)
number_wrong text d = by (is_quoted (prefix_len is_decimal text) text) refl
  where
    by : (t : Bool) → is_quoted (prefix_len is_decimal text) text ≡ t → IsWrongBy text (cond t (wide_number (value_of Decimal (take (prefix_len is_decimal text) text)) (prefix_len is_decimal text + 1) (drop (prefix_len is_decimal text + 1) text)) (plain_number text))
    by true e = wide_wrong text e
    by false e = plain_wrong text d

wrong_number : (text : List ℕ) (rule : Rule) → is_decimal (get_or text 0 0) ≡ true → number text ≡ refused rule → (rule ≡ L 3) × BeginsWrongNumber text
unfolding IsWrongBy
wrong_number text rule d e = subst (IsWrongBy text) e (number_wrong text d)

-- L1
heads : (text octets : List ℕ) (octet : ℕ) → begins text (octet ∷ octets) ≡ true → get_or text 0 0 ≡ octet
heads [] octets octet e = let f = begins_as [] (octet ∷ octets) e in absurd (cc)
heads (first ∷ text) octets octet e = ap (λ xs. get_or xs 0 0) (begins_as (first ∷ text) (octet ∷ octets) e)

no_begin : (text octets : List ℕ) (octet : ℕ) → (get_or text 0 0 ≡ octet → ⊥) → begins text (octet ∷ octets) ≡ false
no_begin text octets octet n = by (begins text (octet ∷ octets)) refl
  where
    by : (t : Bool) → begins text (octet ∷ octets) ≡ t → t ≡ false
    by false e = refl
    by true e = absurd (n (heads text octets octet e))

-- in the list of all marks none passes, so no mark does
none_passes : {A : Type 0} (test : A → Bool) (xs : List A) → list_any test xs ≡ false → All (λ x. test x ≡ false) xs
none_passes test [] e k d l = absurd (omega arith)
none_passes test (x ∷ xs) e zero d l = or_first (test x) (list_any test xs) e
none_passes test (x ∷ xs) e (suc k) d l = none_passes test xs (or_second (test x) (list_any test xs) e) k d (omega arith)

none_of_all : (text : List ℕ) → list_any (λ m. begins text (mark_text m)) all_marks ≡ false → (m : Mark) → begins text (mark_text m) ≡ false
none_of_all text e = of_all_marks (λ m. begins text (mark_text m) ≡ false) (none_passes (λ m. begins text (mark_text m)) all_marks e)

slash_marks : (text : List ℕ) → get_or text 0 0 ≡ 47 → list_any (λ m. begins text (mark_text m)) all_marks ≡ false
slash_marks [] e = absurd (cc)
slash_marks (first ∷ text) e = ap (λ x. list_any (λ m. begins (x ∷ text) (mark_text m)) all_marks) e

at_sign_marks : (text : List ℕ) → get_or text 0 0 ≡ 64 → list_any (λ m. begins text (mark_text m)) all_marks ≡ false
at_sign_marks [] e = absurd (cc)
at_sign_marks (first ∷ text) e = ap (λ x. list_any (λ m. begins (x ∷ text) (mark_text m)) all_marks) e

number_sign_marks : (text : List ℕ) → get_or text 0 0 ≡ 35 → list_any (λ m. begins text (mark_text m)) all_marks ≡ false
number_sign_marks [] e = absurd (cc)
number_sign_marks (first ∷ text) e = ap (λ x. list_any (λ m. begins (x ∷ text) (mark_text m)) all_marks) e

slash_nothing : (before text : List ℕ) → get_or text 0 0 ≡ 47 → begins text (codes "//") ≡ false → begins text (codes "/*") ≡ false → BeginsNothing before text
slash_nothing before text h l b = record {
  no_blank = ap is_blank h;
  no_name = ap is_letter h;
  no_number = ap is_decimal h;
  no_mark = none_of_all text (slash_marks text h);
  no_comment = (l, b);
  no_pragma = λ p. absurd (let q = heads text (codes "pragma") 64 p in omega (arith, q, h));
  no_marker = λ q f. absurd (omega (arith, q, h));
}

pragma_word : (a b : Bool) → (a && not b) ≡ false → a ≡ true → b ≡ true
pragma_word true true e f = refl
pragma_word true false e f = absurd (cc)
pragma_word false b e f = absurd (cc)

at_sign_nothing : (before text : List ℕ) → get_or text 0 0 ≡ 64 → is_pragma text ≡ false → BeginsNothing before text
at_sign_nothing before text h p = record {
  no_blank = ap is_blank h;
  no_name = ap is_letter h;
  no_number = ap is_decimal h;
  no_mark = none_of_all text (at_sign_marks text h);
  no_comment = (no_begin text (codes "/") 47 (λ q. omega (arith, q, h)), no_begin text (codes "*") 47 (λ q. omega (arith, q, h)));
  no_pragma = pragma_word (begins text (codes "@pragma")) (is_word (get_or text 7 0)) p;
  no_marker = λ q f. absurd (omega (arith, q, h));
}

number_sign_nothing : (before text : List ℕ) → get_or text 0 0 ≡ 35 → opens before ≡ false → BeginsNothing before text
number_sign_nothing before text h o = record {
  no_blank = ap is_blank h;
  no_name = ap is_letter h;
  no_number = ap is_decimal h;
  no_mark = none_of_all text (number_sign_marks text h);
  no_comment = (no_begin text (codes "/") 47 (λ q. omega (arith, q, h)), no_begin text (codes "*") 47 (λ q. omega (arith, q, h)));
  no_pragma = λ p. absurd (let q = heads text (codes "pragma") 64 p in omega (arith, q, h));
  no_marker = λ q f. not_first_on_line before o f;
}

none_begins : (text : List ℕ) (table : List Mark) → mark_at mark_text table text ≡ None → list_any (λ m. begins text (mark_text m)) table ≡ false
none_begins text [] e = refl
none_begins text (first ∷ table) e = by (begins text (mark_text first)) refl (none_begins text table) e
  where
    by : (t : Bool) → begins text (mark_text first) ≡ t → (mark_at mark_text table text ≡ None → list_any (λ m. begins text (mark_text m)) table ≡ false) → cond t (Some first) (mark_at mark_text table text) ≡ None → (t || list_any (λ m. begins text (mark_text m)) table) ≡ false
    by true f more e = absurd (cc)
    by false f more e = more e

differs : (a b : ℕ) → nat_eq a b ≡ false → a ≡ b → ⊥
differs a b e q = grind (arith, nat_tests)

other_nothing : (before text : List ℕ) → IsOther (get_or text 0 0) → mark_at mark_text all_marks text ≡ None → BeginsNothing before text
other_nothing before text h m = record {
  no_blank = h.no_blank;
  no_name = h.no_letter;
  no_number = h.no_decimal;
  no_mark = none_of_all text (none_begins text all_marks m);
  no_comment = (no_begin text (codes "/") 47 (differs (get_or text 0 0) 47 h.no_slash), no_begin text (codes "*") 47 (differs (get_or text 0 0) 47 h.no_slash));
  no_pragma = λ p. absurd (differs (get_or text 0 0) 64 h.no_at_sign (heads text (codes "pragma") 64 p));
  no_marker = λ q f. differs (get_or text 0 0) 35 h.no_number_sign q;
}

-- each rule
skipped_rule : (r : Result ℕ Rule) (rule : Rule) → skipped r ≡ refused rule → r ≡ Err rule
skipped_rule (Ok n) rule e = absurd (subst IsRefused (sym e) tt)
skipped_rule (Err other) rule e = let q : other ≡ rule = ap rule_of e in ap Err q

comment_broken : (before text : List ℕ) (rule : Rule) → get_or text 0 0 ≡ 47 → IsNoComment text rule → IsBrokenAt rule before text
comment_broken before text rule h (inl c) = inr (inl (c.0, inl c.1))
comment_broken before text rule h (inr c) = inl (c.0, slash_nothing before text h c.1 c.2)

pragma_broken : (before text : List ℕ) (rule : Rule) → get_or text 0 0 ≡ 64 → pragma_size text ≡ Err rule → IsBrokenAt rule before text
pragma_broken before text rule h e = by (is_pragma text) refl e
  where
    by : (t : Bool) → is_pragma text ≡ t → cond t (Ok (prefix_len is_on_line text)) (Err (L 1)) ≡ Err rule → IsBrokenAt rule before text
    by true f e = absurd (cc)
    by false f e = let q : rule ≡ L 1 = cc in inl (q, at_sign_nothing before text h f)

marker_broken : (before text : List ℕ) (is_first : Bool) (rule : Rule) → is_first ≡ opens before → get_or text 0 0 ≡ 35 → cond is_first (marker_size text) (Err (L 1)) ≡ Err rule → IsBrokenAt rule before text
marker_broken before text true rule o h e = elim (marker_refused text rule h e) [
  | inl m ↦ inr (inl (m.0, inr (is_first_on_line before (sym o), m.1)))
  | inr m ↦ inr (inr (inr (m.0, record { number_sign = h; first = is_first_on_line before (sym o); no_marker = m.1; no_open_name = m.2 })))
]
marker_broken before text false rule o h e = let q : rule ≡ L 1 = cc in inl (q, number_sign_nothing before text h (sym o))

mark_broken : (before text : List ℕ) (rule : Rule) → IsOther (get_or text 0 0) → mark text ≡ refused rule → IsBrokenAt rule before text
mark_broken before text rule h e = by (mark_at mark_text all_marks text) refl e
  where
    by : (o : Option Mark) → mark_at mark_text all_marks text ≡ o → mark_found o ≡ refused rule → IsBrokenAt rule before text
    by (Some m) f e = absurd (subst IsRefused (sym e) tt)
    by None f e = let q : L 1 ≡ rule = ap rule_of e in inl (sym q, other_nothing before text h f)

-- what stands where no piece begins
pub broken_by : (before text : List ℕ) (is_first : Bool) (rule : Rule) → is_first ≡ opens before → front is_first text ≡ refused rule → IsBrokenAt rule before text
broken_by before text is_first rule o e = by (head_of (get_or text 0 0)) (head_is (get_or text 0 0)) e
  where
    by : (h : Head) → HeadIs (get_or text 0 0) h → front_by h is_first text ≡ refused rule → IsBrokenAt rule before text
    by head.Blank h e = absurd (subst IsRefused (sym e) tt)
    by head.Letter h e = absurd (subst IsRefused (sym e) tt)
    by head.Digit h e = inr (inr (inl (wrong_number text rule h.0 e)))
    by head.Slash h e = comment_broken before text rule h (comment_refused text rule (skipped_rule (comment_size text) rule e))
    by head.AtSign h e = pragma_broken before text rule h (skipped_rule (pragma_size text) rule e)
    by head.NumberSign h e = marker_broken before text is_first rule o h (skipped_rule (cond is_first (marker_size text) (Err (L 1))) rule e)
    by head.Other h e = mark_broken before text rule h e
