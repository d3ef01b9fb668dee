-- What stands where a piece is refused.
use Rattle.std.proofs.Common.{◌≡◌, ◌⊎◌, inl, inr, nat_eq, nat_lt, ℕ, zero, suc, ◌+◌, ◌<◌, ◌≤◌, Bool, true, false, List, [], ◌∷◌, ◌++◌, length, get_or, take, drop, refl, sym, ap, ◌∙◌, subst, arith, cond, codes, take-append-drop, drop-cons, Option, Some, None, Result, Ok, Err}
use Rattle.std.specs.Prelude.{not, ◌||◌, ◌&&◌, All}
use Rattle.std.specs.List.{AllPass, prefix_len, list_any, list_all}
use Rattle.std.specs.Cmp.Lexicographic.{other_text}
use Rattle.std.proofs.lemmas.List.{get_or-take, take_at, drop_at, get_or_at}
use Rattle.std.proofs.lemmas.List.Sums.{prefix_len-le-length, list_all-from_AllPass}
use Rattle.std.proofs.lemmas.Bool.{and_from, and_parts}
use Rattle.std.proofs.lemmas.Bool.Decides.{nat_tests}
use Rattle.p4x_fault.specs.declared.Rule.{Rule}
use Rattle.p4x_fault.specs.declared.Rule.TheVariants.{L}
use Rattle.token_division.specs.declared.literals.Base.TheVariants.{Decimal}
use Rattle.token_division.specs.Octets.{is_blank, is_letter, is_decimal, is_word}
use Rattle.token_division.specs.Pieces.{begins, mark_at, comment_size}
use Rattle.token_division.specs.Literals.{value_of, literal_value, literal_size, largest}
use Rattle.token_division.specs.Trivia.{IsFirstOnLine}
use Rattle.token_division.proofs.Numbers.{is_literal, prefix_some}
use Rattle.token_division.proofs.LineStarts.{opens, is_first_on_line, not_first_on_line}
use Rattle.token_division.proofs.Comments.{begins_as, IsNoComment, comment_refused}
use Rattle.p416_syntax.specs.declared.mark.Mark16.{Mark16}
use Rattle.p416_syntax.specs.declared.lexeme.Annotation16.{Annotation16}
use Rattle.p416_syntax.specs.declared.lexeme.Annotation16.TheVariants as annotated
use Rattle.p416_syntax.specs.declared.lexeme.Include16.{Include16}
use Rattle.p416_syntax.specs.declared.lexeme.Include16.TheVariants as included
use Rattle.p416_syntax.specs.Marks.{mark_text16, all_marks16}
use Rattle.p416_syntax.specs.Lines.{annotation_text16, include_text16}
use Rattle.p416_syntax.proofs.AllMarks.{of_all_marks}
use Rattle.p416_tok.specs.declared.front.Head.{Head}
use Rattle.p416_tok.specs.declared.front.Head.TheVariants as head
use Rattle.p416_tok.specs.declared.kind.TokenKind16.TheVariants as kind
use Rattle.p416_tok.specs.Front.{Found, token, skipped, mark_found, mark, number_kind, plain_number, wide_number, is_joined, bare_number, number, is_closed, quoted, is_annotation, annotation_of, annotation_found, annotation_name, first_line, is_include, include_of, include_found, include_line, head_of, front_by, front}
use Rattle.p416_tok.specs.Spelled.{IsIncludeLine}
use Rattle.p416_tok.specs.Refusals.{BeginsString, IsLonger, BeginsNothing, AreDecimals, BeginsJoined, BeginsLargeNumber, IsMisfit, BeginsMisfit, BeginsWrongNumber, IsBrokenAt}
use Rattle.p416_tok.proofs.Spelling.{decimals, within_by, or_first, or_second, joined_letter, joined_digit}
use Rattle.p416_tok.proofs.Heads.{HeadIs, head_is, IsOther}

-- a refusal
abbrev IsRefused : Found → Type 0
IsRefused (Ok piece) = ⊥
IsRefused (Err rule) = Unit {0}

abbrev rule_of : Found → Rule
rule_of (Ok piece) = L 0
rule_of (Err rule) = rule

abbrev refused : Rule → Found
refused rule = Err rule

-- L3, and the form of signed numbers
less : (a b : ℕ) → nat_lt a b ≡ true → a < b
less a b e = grind (arith, nat_tests)

large : (text : List ℕ) → is_decimal (get_or text 0 0) ≡ true → nat_lt largest (literal_value text) ≡ true → BeginsLargeNumber text
large text d e = (literal_size text, literal_value text, is_literal text d, less largest (literal_value text) e)

are_decimals : (text : List ℕ) → is_decimal (get_or text 0 0) ≡ true → AreDecimals (take (prefix_len is_decimal text) text)
are_decimals text e = (ap is_decimal (get_or-take (prefix_len is_decimal text) text 0 0 (prefix_some is_decimal text e refl)) ∙ e, decimals text)

joined_parts : (letter size : ℕ) (text : List ℕ) → 0 < letter → size ≤ length text → is_joined letter size text ≡ true → text ≡ take size text ++ letter ∷ drop (size + 1) text
joined_parts letter size text s l j =
    let here : get_or text size 0 ≡ letter = joined_letter letter size text j in
    let next : suc size ≡ size + 1 = omega arith in
    sym (take-append-drop size text) ∙ ap (λ xs. take size text ++ xs) (drop-cons text size 0 (within_by text size letter s here l) ∙ (λ i. here i ∷ drop (next i) text))

abbrev begins_joined : (letter : ℕ) (text : List ℕ) → 0 < letter → is_decimal (get_or text 0 0) ≡ true → is_joined letter (prefix_len is_decimal text) text ≡ true → BeginsJoined letter text
begins_joined letter text s d j =
    let size = prefix_len is_decimal text in
    record {
      digits = take size text;
      rest = drop (size + 1) text;
      parts = joined_parts letter size text s (prefix_len-le-length is_decimal text) j;
      has_digits = are_decimals text d;
      has_number = joined_digit letter size text j;
    }

IsWrongBy : List ℕ → Found → Type 0
IsWrongBy text (Ok piece) = Unit {0}
IsWrongBy text (Err rule) = ((rule ≡ L 1) × BeginsJoined 115 text) ⊎ ((rule ≡ L 3) × BeginsWrongNumber text)

plain_wrong : (text : List ℕ) → is_decimal (get_or text 0 0) ≡ true → IsWrongBy text (plain_number text)
unfolding IsWrongBy
plain_wrong text d = by (nat_lt largest (literal_value text)) refl
  where
    by : (t : Bool) → nat_lt largest (literal_value text) ≡ t → IsWrongBy text (cond t (Err (L 3)) (token (number_kind None (literal_value text)) (literal_size text)))
    by true e = inr (refl, inl (large text d e))
    by false e = tt

bare_wrong : (text : List ℕ) → is_decimal (get_or text 0 0) ≡ true → IsWrongBy text (bare_number (prefix_len is_decimal text) text)
unfolding IsWrongBy
bare_wrong text d = by (is_joined 115 (prefix_len is_decimal text) text) refl
  where
    by : (t : Bool) → is_joined 115 (prefix_len is_decimal text) text ≡ t → IsWrongBy text (cond t (Err (L 1)) (plain_number text))
    by true e = inl (refl, begins_joined 115 text (omega arith) d e)
    by false e = plain_wrong text d

misfit : (low high over : Bool) → (low || (high || over)) ≡ true → (low ≡ true) ⊎ ((high ≡ true) ⊎ (over ≡ true))
misfit true high over e = inl refl
misfit false true over e = inr (inl refl)
misfit false false over e = inr (inr e)

misfits : (width : ℕ) (rest : List ℕ) → is_decimal (get_or rest 0 0) ≡ true → (nat_lt width 1 || (nat_lt 128 width || nat_lt largest (literal_value rest))) ≡ true → IsMisfit width rest
misfits width rest d e = elim (misfit (nat_lt width 1) (nat_lt 128 width) (nat_lt largest (literal_value rest)) e) [
  | inl low ↦ inl (less width 1 low)
  | inr later ↦ elim later [ inl high ↦ inr (inl (less 128 width high)) | inr over ↦ inr (inr (large rest d over)) ]
]

wide_wrong : (text : List ℕ) → is_decimal (get_or text 0 0) ≡ true → is_joined 119 (prefix_len is_decimal text) text ≡ true → IsWrongBy text (wide_number (value_of Decimal (take (prefix_len is_decimal text) text)) (prefix_len is_decimal text + 1) (drop (prefix_len is_decimal text + 1) text))
unfolding IsWrongBy
wide_wrong text d j =
    by (nat_lt (value_of Decimal (take (prefix_len is_decimal text) text)) 1 || (nat_lt 128 (value_of Decimal (take (prefix_len is_decimal text) text)) || nat_lt largest (literal_value (drop (prefix_len is_decimal text + 1) text)))) refl
  where
    by : (t : Bool) → (nat_lt (value_of Decimal (take (prefix_len is_decimal text) text)) 1 || (nat_lt 128 (value_of Decimal (take (prefix_len is_decimal text) text)) || nat_lt largest (literal_value (drop (prefix_len is_decimal text + 1) text)))) ≡ t → IsWrongBy text (cond t (Err (L 3)) (token (number_kind (Some (value_of Decimal (take (prefix_len is_decimal text) text))) (literal_value (drop (prefix_len is_decimal text + 1) text))) (prefix_len is_decimal text + 1 + literal_size (drop (prefix_len is_decimal text + 1) text))))
    by true e =
        let size = prefix_len is_decimal text in
        inr (refl, inr (begins_joined 119 text (omega arith) d j, misfits (value_of Decimal (take size text)) (drop (size + 1) text) (joined_digit 119 size text j) e))
    by false e = tt

number_wrong : (text : List ℕ) → is_decimal (get_or text 0 0) ≡ true → IsWrongBy text (number text)
number_wrong text d = by (is_joined 119 (prefix_len is_decimal text) text) refl
  where
    by : (t : Bool) → is_joined 119 (prefix_len is_decimal text) text ≡ t → IsWrongBy text (cond t (wide_number (value_of Decimal (take (prefix_len is_decimal text) text)) (prefix_len is_decimal text + 1) (drop (prefix_len is_decimal text + 1) text)) (bare_number (prefix_len is_decimal text) text))
    by true e = wide_wrong text d e
    by false e = bare_wrong text d

wrong_number : (text : List ℕ) (rule : Rule) → is_decimal (get_or text 0 0) ≡ true → number text ≡ refused rule → ((rule ≡ L 1) × BeginsJoined 115 text) ⊎ ((rule ≡ L 3) × BeginsWrongNumber text)
unfolding IsWrongBy
wrong_number text rule d e = subst (IsWrongBy text) e (number_wrong text d)

-- L1
heads : (text octets : List ℕ) (octet : ℕ) → begins text (octet ∷ octets) ≡ true → get_or text 0 0 ≡ octet
heads [] octets octet e = let f = begins_as [] (octet ∷ octets) e in absurd (cc)
heads (first ∷ text) octets octet e = ap (λ xs. get_or xs 0 0) (begins_as (first ∷ text) (octet ∷ octets) e)

no_begin : (text octets : List ℕ) (octet : ℕ) → (get_or text 0 0 ≡ octet → ⊥) → begins text (octet ∷ octets) ≡ false
no_begin text octets octet n = by (begins text (octet ∷ octets)) refl
  where
    by : (t : Bool) → begins text (octet ∷ octets) ≡ t → t ≡ false
    by false e = refl
    by true e = absurd (n (heads text octets octet e))

never_comment : (text : List ℕ) → (get_or text 0 0 ≡ 47 → ⊥) → (begins text (codes "//") ≡ false) × (begins text (codes "/*") ≡ false)
never_comment text n = (no_begin text (codes "/") 47 n, no_begin text (codes "*") 47 n)

never_string : (text : List ℕ) → (get_or text 0 0 ≡ 34 → ⊥) → BeginsString text → ⊥
never_string text n s = n (ap (λ xs. get_or xs 0 0) s.2)

annotation_heads : (text : List ℕ) (a : Annotation16) → begins text (annotation_text16 a) ≡ true → get_or text 0 0 ≡ 64
annotation_heads text annotated.Name e = heads text (codes "name") 64 e
annotation_heads text annotated.FieldList e = heads text (codes "field_list") 64 e

never_annotation : (text : List ℕ) → (get_or text 0 0 ≡ 64 → ⊥) → (a : Annotation16) → begins text (annotation_text16 a) ≡ true → IsLonger a text
never_annotation text n a e = absurd (n (annotation_heads text a e))

-- in the list of all marks none passes, so no mark does
none_passes : {A : Type 0} (test : A → Bool) (xs : List A) → list_any test xs ≡ false → All (λ x. test x ≡ false) xs
none_passes test [] e k d l = absurd (omega arith)
none_passes test (x ∷ xs) e zero d l = or_first (test x) (list_any test xs) e
none_passes test (x ∷ xs) e (suc k) d l = none_passes test xs (or_second (test x) (list_any test xs) e) k d (omega arith)

none_of_all : (text : List ℕ) → list_any (λ m. begins text (mark_text16 m)) all_marks16 ≡ false → (m : Mark16) → begins text (mark_text16 m) ≡ false
none_of_all text e = of_all_marks (λ m. begins text (mark_text16 m) ≡ false) (none_passes (λ m. begins text (mark_text16 m)) all_marks16 e)

slash_marks : (text : List ℕ) → get_or text 0 0 ≡ 47 → list_any (λ m. begins text (mark_text16 m)) all_marks16 ≡ false
slash_marks [] e = absurd (cc)
slash_marks (first ∷ text) e = ap (λ x. list_any (λ m. begins (x ∷ text) (mark_text16 m)) all_marks16) e

quote_marks : (text : List ℕ) → get_or text 0 0 ≡ 34 → list_any (λ m. begins text (mark_text16 m)) all_marks16 ≡ false
quote_marks [] e = absurd (cc)
quote_marks (first ∷ text) e = ap (λ x. list_any (λ m. begins (x ∷ text) (mark_text16 m)) all_marks16) e

at_sign_marks : (text : List ℕ) → get_or text 0 0 ≡ 64 → list_any (λ m. begins text (mark_text16 m)) all_marks16 ≡ false
at_sign_marks [] e = absurd (cc)
at_sign_marks (first ∷ text) e = ap (λ x. list_any (λ m. begins (x ∷ text) (mark_text16 m)) all_marks16) e

number_sign_marks : (text : List ℕ) → get_or text 0 0 ≡ 35 → list_any (λ m. begins text (mark_text16 m)) all_marks16 ≡ false
number_sign_marks [] e = absurd (cc)
number_sign_marks (first ∷ text) e = ap (λ x. list_any (λ m. begins (x ∷ text) (mark_text16 m)) all_marks16) e

slash_nothing : (before text : List ℕ) → get_or text 0 0 ≡ 47 → begins text (codes "//") ≡ false → begins text (codes "/*") ≡ false → BeginsNothing before text
slash_nothing before text h l b = record {
  no_blank = ap is_blank h;
  no_name = ap is_letter h;
  no_number = ap is_decimal h;
  no_mark = none_of_all text (slash_marks text h);
  no_comment = (l, b);
  no_string = never_string text (λ q. omega (arith, q, h));
  no_annotation = never_annotation text (λ q. omega (arith, q, h));
  no_line = λ q f. absurd (omega (arith, q, h));
}

-- a string of the law is taken
run_ends : (p : ℕ → Bool) (xs : List ℕ) (octet : ℕ) (rest : List ℕ) → list_all p xs ≡ true → p octet ≡ false → prefix_len p (xs ++ octet ∷ rest) ≡ length xs
run_ends p [] octet rest h e = ap (λ t. cond t (1 + prefix_len p rest) 0) e
run_ends p (x ∷ xs) octet rest h e =
    let parts = and_parts (p x) (list_all p xs) h in
    let one_more : 1 + length xs ≡ length (x ∷ xs) = omega arith in
    ap (λ t. cond t (1 + prefix_len p (xs ++ octet ∷ rest)) 0) parts.0 ∙ ap (λ n. 1 + n) (run_ends p xs octet rest parts.1 e) ∙ one_more

first_letter : (name rest : List ℕ) → is_letter (get_or name 0 0) ≡ true → is_letter (get_or (name ++ rest) 0 0) ≡ true
first_letter [] rest h = absurd (let z : is_letter 0 ≡ true = h in cc)
first_letter (x ∷ name) rest h = h

string_taken : (text : List ℕ) → BeginsString text → is_closed (prefix_len is_word (drop 1 text)) (drop 1 text) ≡ true
string_taken text s =
    let name = s.0 in
    let rest = s.1 in
    let inside = name ++ 34 ∷ rest in
    let parts = and_parts (is_letter (get_or name 0 0)) (list_all is_word name) s.3 in
    let size : prefix_len is_word inside ≡ length name = run_ends is_word name 34 rest parts.1 refl in
    let quote : nat_eq (get_or inside (length name) 0) 34 ≡ true = ap (λ x. nat_eq x 34) (get_or_at name 34 rest 0 (length name) refl) in
    ap (λ xs. is_closed (prefix_len is_word (drop 1 xs)) (drop 1 xs)) s.2 ∙ ap (λ n. is_closed n inside) size
    ∙ and_from (nat_eq (get_or inside (length name) 0) 34) (is_letter (get_or inside 0 0)) quote (first_letter name (34 ∷ rest) parts.0)

quote_nothing : (before text : List ℕ) → get_or text 0 0 ≡ 34 → is_closed (prefix_len is_word (drop 1 text)) (drop 1 text) ≡ false → BeginsNothing before text
quote_nothing before text h c = record {
  no_blank = ap is_blank h;
  no_name = ap is_letter h;
  no_number = ap is_decimal h;
  no_mark = none_of_all text (quote_marks text h);
  no_comment = never_comment text (λ q. omega (arith, q, h));
  no_string = λ s. absurd (let f : false ≡ true = sym c ∙ string_taken text s in cc);
  no_annotation = never_annotation text (λ q. omega (arith, q, h));
  no_line = λ q f. absurd (omega (arith, q, h));
}

annotation_word : (a b : Bool) → (a && not b) ≡ false → a ≡ true → b ≡ true
annotation_word true true e f = refl
annotation_word true false e f = absurd (cc)
annotation_word false b e f = absurd (cc)

none_annotated : (text : List ℕ) → annotation_of text ≡ None → (a : Annotation16) → is_annotation a text ≡ false
none_annotated text e = by (is_annotation annotated.Name text) refl (is_annotation annotated.FieldList text) refl e
  where
    by : (t : Bool) → is_annotation annotated.Name text ≡ t → (u : Bool) → is_annotation annotated.FieldList text ≡ u → cond t (Some annotated.Name) (cond u (Some annotated.FieldList) None) ≡ None → (a : Annotation16) → is_annotation a text ≡ false
    by true f u g e a = absurd (cc)
    by false f true g e a = absurd (cc)
    by false f false g e annotated.Name = f
    by false f false g e annotated.FieldList = g

at_sign_nothing : (before text : List ℕ) → get_or text 0 0 ≡ 64 → annotation_of text ≡ None → BeginsNothing before text
at_sign_nothing before text h n = record {
  no_blank = ap is_blank h;
  no_name = ap is_letter h;
  no_number = ap is_decimal h;
  no_mark = none_of_all text (at_sign_marks text h);
  no_comment = never_comment text (λ q. omega (arith, q, h));
  no_string = never_string text (λ q. omega (arith, q, h));
  no_annotation = λ a e. annotation_word (begins text (annotation_text16 a)) (is_word (get_or text (length (annotation_text16 a)) 0)) (none_annotated text n a) e;
  no_line = λ q f. absurd (omega (arith, q, h));
}

number_sign_nothing : (before text : List ℕ) → get_or text 0 0 ≡ 35 → opens before ≡ false → BeginsNothing before text
number_sign_nothing before text h o = record {
  no_blank = ap is_blank h;
  no_name = ap is_letter h;
  no_number = ap is_decimal h;
  no_mark = none_of_all text (number_sign_marks text h);
  no_comment = never_comment text (λ q. omega (arith, q, h));
  no_string = never_string text (λ q. omega (arith, q, h));
  no_annotation = never_annotation text (λ q. omega (arith, q, h));
  no_line = λ q f. not_first_on_line before o f;
}

none_begins : (text : List ℕ) (table : List Mark16) → mark_at mark_text16 table text ≡ None → list_any (λ m. begins text (mark_text16 m)) table ≡ false
none_begins text [] e = refl
none_begins text (first ∷ table) e = by (begins text (mark_text16 first)) refl (none_begins text table) e
  where
    by : (t : Bool) → begins text (mark_text16 first) ≡ t → (mark_at mark_text16 table text ≡ None → list_any (λ m. begins text (mark_text16 m)) table ≡ false) → cond t (Some first) (mark_at mark_text16 table text) ≡ None → (t || list_any (λ m. begins text (mark_text16 m)) table) ≡ false
    by true f more e = absurd (cc)
    by false f more e = more e

differs : (a b : ℕ) → nat_eq a b ≡ false → a ≡ b → ⊥
differs a b e q = grind (arith, nat_tests)

other_nothing : (before text : List ℕ) → IsOther (get_or text 0 0) → mark_at mark_text16 all_marks16 text ≡ None → BeginsNothing before text
other_nothing before text h m = record {
  no_blank = h.no_blank;
  no_name = h.no_letter;
  no_number = h.no_decimal;
  no_mark = none_of_all text (none_begins text all_marks16 m);
  no_comment = never_comment text (differs (get_or text 0 0) 47 h.no_slash);
  no_string = never_string text (differs (get_or text 0 0) 34 h.no_quote);
  no_annotation = never_annotation text (differs (get_or text 0 0) 64 h.no_at_sign);
  no_line = λ q f. differs (get_or text 0 0) 35 h.no_number_sign q;
}

-- an include line of the law is taken
begins_from : (text octets : List ℕ) → take (length octets) text ≡ octets → begins text octets ≡ true
begins_from text octets e = by (begins text octets) refl
  where
    by : (t : Bool) → begins text octets ≡ t → t ≡ true
    by true f = refl
    by false f = absurd (other_text octets (take (length octets) text) (sym f) (sym e))

line_taken : (i : Include16) (line : List ℕ) → IsIncludeLine i line → is_include i line ≡ true
line_taken i line h =
    let written = include_text16 i in
    let blanks = h.0 in
    let front_is : take (length written) line ≡ written = ap (take (length written)) h.1 ∙ take_at written blanks (length written) refl in
    let back : drop (length written) line ≡ blanks = ap (drop (length written)) h.1 ∙ drop_at written blanks (length written) refl in
    and_from (begins line written) (list_all is_blank (drop (length written) line)) (begins_from line written front_is)
    (ap (list_all is_blank) back ∙ list_all-from_AllPass is_blank blanks h.2)

none_included : (line : List ℕ) → include_of line ≡ None → (i : Include16) → is_include i line ≡ false
none_included line e = by (is_include included.Core line) refl (is_include included.V1Model line) refl e
  where
    by : (t : Bool) → is_include included.Core line ≡ t → (u : Bool) → is_include included.V1Model line ≡ u → cond t (Some included.Core) (cond u (Some included.V1Model) None) ≡ None → (i : Include16) → is_include i line ≡ false
    by true f u g e i = absurd (cc)
    by false f true g e i = absurd (cc)
    by false f false g e included.Core = f
    by false f false g e included.V1Model = g

-- each rule
skipped_rule : (r : Result ℕ Rule) (rule : Rule) → skipped r ≡ refused rule → r ≡ Err rule
skipped_rule (Ok n) rule e = absurd (subst IsRefused (sym e) tt)
skipped_rule (Err other) rule e = let q : other ≡ rule = ap rule_of e in ap Err q

number_broken : (before text : List ℕ) (rule : Rule) → ((rule ≡ L 1) × BeginsJoined 115 text) ⊎ ((rule ≡ L 3) × BeginsWrongNumber text) → IsBrokenAt rule before text
number_broken before text rule (inl w) = inl (w.0, inr w.1)
number_broken before text rule (inr w) = inr (inr (inl w))

comment_broken : (before text : List ℕ) (rule : Rule) → get_or text 0 0 ≡ 47 → IsNoComment text rule → IsBrokenAt rule before text
comment_broken before text rule h (inl c) = inr (inl c)
comment_broken before text rule h (inr c) = inl (c.0, inl (slash_nothing before text h c.1 c.2))

string_broken : (before text : List ℕ) (rule : Rule) → get_or text 0 0 ≡ 34 → quoted text ≡ refused rule → IsBrokenAt rule before text
string_broken before text rule h e = by (is_closed (prefix_len is_word (drop 1 text)) (drop 1 text)) refl e
  where
    by : (t : Bool) → is_closed (prefix_len is_word (drop 1 text)) (drop 1 text) ≡ t → cond t (token kind.Quoted (prefix_len is_word (drop 1 text) + 2)) (Err (L 1)) ≡ refused rule → IsBrokenAt rule before text
    by true f e = absurd (subst IsRefused (sym e) tt)
    by false f e = let q : L 1 ≡ rule = ap rule_of e in inl (sym q, inl (quote_nothing before text h f))

annotation_broken : (before text : List ℕ) (rule : Rule) → get_or text 0 0 ≡ 64 → annotation_name text ≡ refused rule → IsBrokenAt rule before text
annotation_broken before text rule h e = by (annotation_of text) refl e
  where
    by : (o : Option Annotation16) → annotation_of text ≡ o → annotation_found o ≡ refused rule → IsBrokenAt rule before text
    by (Some a) f e = absurd (subst IsRefused (sym e) tt)
    by None f e = let q : L 1 ≡ rule = ap rule_of e in inl (sym q, inl (at_sign_nothing before text h f))

line_broken : (before text : List ℕ) (rule : Rule) → opens before ≡ true → get_or text 0 0 ≡ 35 → include_line text ≡ refused rule → IsBrokenAt rule before text
line_broken before text rule o h e = by (include_of (first_line text)) refl e
  where
    never_included : include_of (first_line text) ≡ None → (i : Include16) → IsIncludeLine i (first_line text) → ⊥
    never_included f i k = let g : false ≡ true = sym (none_included (first_line text) f i) ∙ line_taken i (first_line text) k in cc

    by : (found : Option Include16) → include_of (first_line text) ≡ found → include_found found ≡ refused rule → IsBrokenAt rule before text
    by (Some i) f e = absurd (subst IsRefused (sym e) tt)
    by None f e = let q : L 4 ≡ rule = ap rule_of e in inr (inr (inr (sym q, record { number_sign = h; first = is_first_on_line before o; no_include = never_included f })))

number_sign_broken : (before text : List ℕ) (is_first : Bool) (rule : Rule) → is_first ≡ opens before → get_or text 0 0 ≡ 35 → cond is_first (include_line text) (Err (L 1)) ≡ refused rule → IsBrokenAt rule before text
number_sign_broken before text true rule o h e = line_broken before text rule (sym o) h e
number_sign_broken before text false rule o h e = let q : L 1 ≡ rule = ap rule_of e in inl (sym q, inl (number_sign_nothing before text h (sym o)))

mark_broken : (before text : List ℕ) (rule : Rule) → IsOther (get_or text 0 0) → mark text ≡ refused rule → IsBrokenAt rule before text
mark_broken before text rule h e = by (mark_at mark_text16 all_marks16 text) refl e
  where
    by : (o : Option Mark16) → mark_at mark_text16 all_marks16 text ≡ o → mark_found o ≡ refused rule → IsBrokenAt rule before text
    by (Some m) f e = absurd (subst IsRefused (sym e) tt)
    by None f e = let q : L 1 ≡ rule = ap rule_of e in inl (sym q, inl (other_nothing before text h f))

-- what stands where no piece begins
pub broken_by : (before text : List ℕ) (is_first : Bool) (rule : Rule) → is_first ≡ opens before → front is_first text ≡ refused rule → IsBrokenAt rule before text
broken_by before text is_first rule o e = by (head_of (get_or text 0 0)) (head_is (get_or text 0 0)) e
  where
    by : (h : Head) → HeadIs (get_or text 0 0) h → front_by h is_first text ≡ refused rule → IsBrokenAt rule before text
    by head.Blank h e = absurd (subst IsRefused (sym e) tt)
    by head.Letter h e = absurd (subst IsRefused (sym e) tt)
    by head.Digit h e = number_broken before text rule (wrong_number text rule h.0 e)
    by head.Slash h e = comment_broken before text rule h (comment_refused text rule (skipped_rule (comment_size text) rule e))
    by head.Quote h e = string_broken before text rule h e
    by head.AtSign h e = annotation_broken before text rule h e
    by head.NumberSign h e = number_sign_broken before text is_first rule o h e
    by head.Other h e = mark_broken before text rule h e
