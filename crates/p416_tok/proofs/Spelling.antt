-- How a token that a text begins with is written.
use Rattle.std.proofs.Common.{◌≡◌, inl, inr, nat_eq, nat_lt, zero-le, ℕ, ◌<◌, ◌≤◌, ◌-◌, ◌+◌, Bool, true, false, List, [], ◌∷◌, ◌++◌, length, get_or, take, drop, refl, sym, ap, ◌∙◌, subst, arith, cond, append_assoc, take-append-drop, length-append, take-take, Option, Some, None, Result, Ok, Err}
use Rattle.std.specs.Prelude.{All, not, ◌||◌, ◌&&◌}
use Rattle.std.specs.List.{prefix_len, list_all, AllPass}
use Rattle.std.specs.Cmp.Lexicographic.{same_text}
use Rattle.std.proofs.Math.Nat.{eq-or-lt_of_le}
use Rattle.std.proofs.lemmas.List.{get_or-take, get_or-drop, get_or_past, length-take-le, take_more}
use Rattle.std.proofs.lemmas.List.Sums.{prefix_len-le-length, prefix_len_passes, prefix_len_stops, list_all-from_AllPass, AllPass-from_list_all}
use Rattle.std.proofs.lemmas.Bool.{and_from, and_parts}
use Rattle.std.proofs.lemmas.Bool.Decides.{nat_tests}
use Rattle.p4x_fault.specs.declared.Rule.{Rule}
use Rattle.p4x_fault.specs.declared.Rule.TheVariants.{L}
use Rattle.token_division.specs.declared.division.Token.{Token}
use Rattle.token_division.specs.declared.division.What.{What}
use Rattle.token_division.specs.declared.division.What.TheVariants as what
use Rattle.token_division.specs.Octets.{is_blank, is_letter, is_decimal, is_word, is_on_line}
use Rattle.token_division.specs.Pieces.{begins, mark_at, comment_size}
use Rattle.token_division.specs.declared.literals.Base.TheVariants.{Decimal}
use Rattle.token_division.specs.Literals.{value_of, literal_value, literal_size, largest}
use Rattle.token_division.specs.Layout.{IsPieceOf}
use Rattle.token_division.proofs.Places.{take-add}
use Rattle.token_division.proofs.Numbers.{is_literal}
use Rattle.token_division.proofs.Marks.{mark_begins, mark_longest}
use Rattle.token_division.proofs.Comments.{begins_as}
use Rattle.p416_syntax.specs.declared.mark.Mark16.{Mark16}
use Rattle.p416_syntax.specs.declared.lexeme.Annotation16.{Annotation16}
use Rattle.p416_syntax.specs.declared.lexeme.Annotation16.TheVariants as annotated
use Rattle.p416_syntax.specs.declared.lexeme.Include16.{Include16}
use Rattle.p416_syntax.specs.declared.lexeme.Include16.TheVariants as included
use Rattle.p416_syntax.specs.Marks.{mark_text16, all_marks16}
use Rattle.p416_syntax.specs.Lines.{annotation_text16, include_text16}
use Rattle.p416_syntax.specs.SpeltLexemes.{is_identifier16}
use Rattle.p416_syntax.proofs.AllMarks.{of_all_marks}
use Rattle.p416_tok.specs.declared.kind.TokenKind16.{TokenKind16}
use Rattle.p416_tok.specs.declared.kind.TokenKind16.TheVariants as kind
use Rattle.p416_tok.specs.declared.front.Head.{Head}
use Rattle.p416_tok.specs.declared.front.Head.TheVariants as head
use Rattle.p416_tok.specs.Front.{Found, token, skipped, mark_found, number_kind, plain_number, wide_number, is_joined, bare_number, number, is_closed, quoted, is_annotation, annotation_of, annotation_found, first_line, is_include, include_of, include_found, include_line, head_of, front_by, front}
use Rattle.p416_tok.specs.Spelled.{IsNumber, IsWideNumber, IsString, IsIncludeLine, IsSpelled}
use Rattle.p416_tok.proofs.Heads.{equal, HeadIs, head_is}

-- the kind of the token that a piece is, if it is one
kind_of_what : What TokenKind16 → Option TokenKind16
kind_of_what what.Blank = None
kind_of_what what.Skipped = None
kind_of_what (what.Token k) = Some k

kind_of : Found → Option TokenKind16
kind_of (Ok piece) = kind_of_what piece.what
kind_of (Err rule) = None

size_of : Found → ℕ
size_of (Ok piece) = piece.size
size_of (Err rule) = 0

skipped_kind : (r : Result ℕ Rule) → kind_of (skipped r) ≡ None
unfolding kind_of kind_of_what
skipped_kind (Ok size) = refl
skipped_kind (Err rule) = refl

no_kind : (rule : Rule) → kind_of (Err rule) ≡ None
unfolding kind_of
no_kind rule = refl

is_no_token : (found : Found) (k : TokenKind16) (size : ℕ) → kind_of found ≡ None → found ≡ token k size → ⊥
unfolding kind_of kind_of_what
is_no_token found k size n e = let h : None ≡ Some k = sym n ∙ ap kind_of e in cc

the_kind : (j k : TokenKind16) (n size : ℕ) → token j n ≡ token k size → j ≡ k
unfolding kind_of kind_of_what
the_kind j k n size e = let h : Some j ≡ Some k = ap kind_of e in cc

the_size : (j k : TokenKind16) (n size : ℕ) → token j n ≡ token k size → n ≡ size
unfolding size_of
the_size j k n size e = ap size_of e

-- a name
not_word_behind : (text : List ℕ) → is_word (get_or text (prefix_len is_word text) 0) ≡ false
not_word_behind text = elim (eq-or-lt_of_le (prefix_len-le-length is_word text)) [
  | inl e ↦ ap is_word (get_or_past text (prefix_len is_word text) 0 (omega arith))
  | inr l ↦ prefix_len_stops is_word text 0 l
]

word_prefix : (text : List ℕ) → AllPass is_word (take (prefix_len is_word text) text)
word_prefix text k d l =
    let size = prefix_len is_word text in
    let inside : k < size = omega (arith, length-take-le size text (prefix_len-le-length is_word text)) in
    ap is_word (get_or-take size text k d inside) ∙ prefix_len_passes is_word text k d inside

is_name : (text : List ℕ) → is_letter (get_or text 0 0) ≡ true → 0 < prefix_len is_word text → is_identifier16 (take (prefix_len is_word text) text) ≡ true
is_name text e s =
    let name = take (prefix_len is_word text) text in
    and_from (is_letter (get_or name 0 0)) (list_all is_word name) (ap is_letter (get_or-take (prefix_len is_word text) text 0 0 s) ∙ e) (list_all-from_AllPass is_word name (word_prefix text))

or_left : (a b : Bool) → a ≡ true → (a || b) ≡ true
or_left true b e = refl
or_left false b e = absurd (cc)

word_some : (text : List ℕ) → is_letter (get_or text 0 0) ≡ true → 0 < prefix_len is_word text
word_some text e = elim (eq-or-lt_of_le (zero-le {n = prefix_len is_word text})) [
  | inl z ↦ absurd (let w = sym (or_left (is_letter (get_or text 0 0)) (is_decimal (get_or text 0 0)) e) ∙ ap (λ n. is_word (get_or text n 0)) z ∙ not_word_behind text in cc)
  | inr l ↦ l
]

is_name_token : (text : List ℕ) (k : TokenKind16) (size : ℕ) → is_letter (get_or text 0 0) ≡ true → kind.Name ≡ k → prefix_len is_word text ≡ size → IsSpelled k text size
is_name_token text k size e q s = subst (λ j. IsSpelled j text size) q (subst (λ n. (is_identifier16 (take n text) ≡ true) × (is_word (get_or text n 0) ≡ false)) s (is_name text e (word_some text e), not_word_behind text))

-- a mark
is_mark_token : (text : List ℕ) (k : TokenKind16) (size : ℕ) (found : Option Mark16) → mark_at mark_text16 all_marks16 text ≡ found → mark_found found ≡ token k size → IsSpelled k text size
unfolding kind_of kind_of_what size_of
is_mark_token text k size None f e = absurd (let h : None ≡ Some k = ap kind_of e in cc)
is_mark_token text k size (Some m) f e =
    let q : kind.Mark m ≡ k = let h : Some (kind.Mark m) ≡ Some k = ap kind_of e in cc in
    let s : length (mark_text16 m) ≡ size = ap size_of e in
    let written : mark_text16 m ≡ take (length (mark_text16 m)) text = same_text (mark_text16 m) (take (length (mark_text16 m)) text) (sym (mark_begins mark_text16 text m all_marks16 f)) in
    subst (λ j. IsSpelled j text size) q (subst (λ n. (take n text ≡ mark_text16 m) × ((other : Mark16) → begins text (mark_text16 other) ≡ true → length (mark_text16 other) ≤ n)) s
    (sym written, of_all_marks (λ other. begins text (mark_text16 other) ≡ true → length (mark_text16 other) ≤ length (mark_text16 m)) (mark_longest mark_text16 text m all_marks16 refl f)))

-- a number without a width
no_more : (a b : ℕ) → nat_lt a b ≡ false → b ≤ a
no_more a b e = grind (arith, nat_tests)

is_plain_token : (text : List ℕ) (k : TokenKind16) (size : ℕ) → is_decimal (get_or text 0 0) ≡ true → plain_number text ≡ token k size → IsSpelled k text size
is_plain_token text k size d e = go (nat_lt largest (literal_value text)) refl e
  where
    go : (t : Bool) → nat_lt largest (literal_value text) ≡ t → cond t (Err (L 3)) (token (number_kind None (literal_value text)) (literal_size text)) ≡ token k size → IsSpelled k text size
    go true f e = absurd (is_no_token (Err (L 3)) k size (no_kind (L 3)) e)
    go false f e =
        subst (λ j. IsSpelled j text size) (the_kind (number_kind None (literal_value text)) k (literal_size text) size e)
        (subst (λ n. IsNumber None (literal_value text) (take n text)) (the_size (number_kind None (literal_value text)) k (literal_size text) size e) (is_literal text d, no_more largest (literal_value text) f))

-- a number with a width
wide_parts : (text : List ℕ) (n size : ℕ) → get_or text n 0 ≡ 119 → n < length text → take (n + 1 + size) text ≡ take n text ++ 119 ∷ take size (drop (n + 1) text)
wide_parts text n size e l =
    take-add (n + 1) size text ∙ ap (λ xs. xs ++ take size (drop (n + 1) text)) (take_more text n 0 l ∙ ap (λ x. take n text ++ x ∷ []) e)
    ∙ append_assoc (take n text) (119 ∷ []) (take size (drop (n + 1) text))

pub or_first : (a b : Bool) → (a || b) ≡ false → a ≡ false
or_first true b e = absurd (cc)
or_first false b e = refl

pub or_second : (a b : Bool) → (a || b) ≡ false → b ≡ false
or_second true b e = absurd (cc)
or_second false b e = e

is_wide : (text : List ℕ) (n width : ℕ) → AllPass is_decimal (take n text) → width ≡ value_of Decimal (take n text) → get_or text n 0 ≡ 119 → n < length text → is_decimal (get_or (drop (n + 1) text) 0 0) ≡ true → (nat_lt width 1 || (nat_lt 128 width || nat_lt largest (literal_value (drop (n + 1) text)))) ≡ false → IsWideNumber (take (n + 1 + literal_size (drop (n + 1) text)) text) width (literal_value (drop (n + 1) text))
is_wide text n width p w q l d f =
    let over = nat_lt largest (literal_value (drop (n + 1) text)) in
    let later = or_second (nat_lt width 1) (nat_lt 128 width || over) f in
    record {
      digits = take n text;
      rest = take (literal_size (drop (n + 1) text)) (drop (n + 1) text);
      parts = wide_parts text n (literal_size (drop (n + 1) text)) q l;
      has_digits = p;
      width_is = w;
      width_fits = (no_more width 1 (or_first (nat_lt width 1) (nat_lt 128 width || over) f), no_more 128 width (or_first (nat_lt 128 width) over later));
      has_number = is_literal (drop (n + 1) text) d;
      number_fits = no_more largest (literal_value (drop (n + 1) text)) (or_second (nat_lt 128 width) over later);
    }

is_wide_token : (text : List ℕ) (n width : ℕ) (k : TokenKind16) (size : ℕ) → AllPass is_decimal (take n text) → width ≡ value_of Decimal (take n text) → get_or text n 0 ≡ 119 → n < length text → is_decimal (get_or (drop (n + 1) text) 0 0) ≡ true → wide_number width (n + 1) (drop (n + 1) text) ≡ token k size → IsSpelled k text size
is_wide_token text n width k size p w q l d e = go (nat_lt width 1 || (nat_lt 128 width || nat_lt largest (literal_value (drop (n + 1) text)))) refl e
  where
    go : (t : Bool) → (nat_lt width 1 || (nat_lt 128 width || nat_lt largest (literal_value (drop (n + 1) text)))) ≡ t → cond t (Err (L 3)) (token (number_kind (Some width) (literal_value (drop (n + 1) text))) (n + 1 + literal_size (drop (n + 1) text))) ≡ token k size → IsSpelled k text size
    go true f e = absurd (is_no_token (Err (L 3)) k size (no_kind (L 3)) e)
    go false f e =
        let number : TokenKind16 = number_kind (Some width) (literal_value (drop (n + 1) text)) in
        let end = n + 1 + literal_size (drop (n + 1) text) in
        subst (λ j. IsSpelled j text size) (the_kind number k end size e)
        (subst (λ m. IsWideNumber (take m text) width (literal_value (drop (n + 1) text))) (the_size number k end size e) (is_wide text n width p w q l d f))

-- an octet that isn't 0 stands in the text
pub within_by : (text : List ℕ) (n octet : ℕ) → 0 < octet → get_or text n 0 ≡ octet → n ≤ length text → n < length text
within_by text n octet s e l = elim (eq-or-lt_of_le l) [ inl q ↦ absurd (let z = get_or_past text n 0 (omega arith) in omega (arith, s, z, e)) | inr m ↦ m ]

pub decimals : (text : List ℕ) → AllPass is_decimal (take (prefix_len is_decimal text) text)
decimals text k d l =
    let size = prefix_len is_decimal text in
    let within = length-take-le size text (prefix_len-le-length is_decimal text) in
    let m : k < size = omega (arith, within) in
    ap is_decimal (get_or-take size text k d m) ∙ prefix_len_passes is_decimal text k d m

-- what joins a letter and a digit to the decimal digits in front
pub joined_letter : (letter size : ℕ) (text : List ℕ) → is_joined letter size text ≡ true → get_or text size 0 ≡ letter
joined_letter letter size text j = equal (get_or text size 0) letter (and_parts (nat_eq (get_or text size 0) letter) (is_decimal (get_or text (size + 1) 0)) j).0

pub joined_digit : (letter size : ℕ) (text : List ℕ) → is_joined letter size text ≡ true → is_decimal (get_or (drop (size + 1) text) 0 0) ≡ true
joined_digit letter size text j =
    let same : size + 1 + 0 ≡ size + 1 = omega arith in
    ap is_decimal (get_or-drop (size + 1) text 0 0 ∙ ap (λ i. get_or text i 0) same) ∙ (and_parts (nat_eq (get_or text size 0) letter) (is_decimal (get_or text (size + 1) 0)) j).1

is_number_token : (text : List ℕ) (k : TokenKind16) (size : ℕ) → is_decimal (get_or text 0 0) ≡ true → number text ≡ token k size → IsSpelled k text size
is_number_token text k size d e = go (is_joined 119 (prefix_len is_decimal text) text) refl e
  where
    bare : (t : Bool) → cond t (Err (L 1)) (plain_number text) ≡ token k size → IsSpelled k text size
    bare true e = absurd (is_no_token (Err (L 1)) k size (no_kind (L 1)) e)
    bare false e = is_plain_token text k size d e

    go : (t : Bool) → is_joined 119 (prefix_len is_decimal text) text ≡ t → cond t (wide_number (value_of Decimal (take (prefix_len is_decimal text) text)) (prefix_len is_decimal text + 1) (drop (prefix_len is_decimal text + 1) text)) (bare_number (prefix_len is_decimal text) text) ≡ token k size → IsSpelled k text size
    go false f e = bare (is_joined 115 (prefix_len is_decimal text) text) e
    go true f e =
        let m = prefix_len is_decimal text in
        let letter = joined_letter 119 m text f in
        is_wide_token text m (value_of Decimal (take m text)) k size (decimals text) refl letter (within_by text m 119 (omega arith) letter (prefix_len-le-length is_decimal text)) (joined_digit 119 m text f) e

-- a string
is_string : (octet : ℕ) (inside : List ℕ) → octet ≡ 34 → is_closed (prefix_len is_word inside) inside ≡ true → IsString (take (prefix_len is_word inside + 2) (octet ∷ inside))
is_string octet inside e h =
    let m = prefix_len is_word inside in
    let name = take m inside in
    let parts = and_parts (nat_eq (get_or inside m 0) 34) (is_letter (get_or inside 0 0)) h in
    let quote : get_or inside m 0 ≡ 34 = equal (get_or inside m 0) 34 parts.0 in
    let within : m < length inside = within_by inside m 34 (omega arith) quote (prefix_len-le-length is_word inside) in
    let size : m + 2 ≡ 1 + (m + 1) = omega arith in
    let front_is : take (m + 2) (octet ∷ inside) ≡ (octet ∷ []) ++ take (m + 1) inside = ap (λ n. take n (octet ∷ inside)) size ∙ take-add 1 (m + 1) (octet ∷ inside) in
    let back : take (m + 1) inside ≡ name ++ 34 ∷ [] = take_more inside m 0 within ∙ ap (λ x. name ++ x ∷ []) quote in (
      name,
      front_is ∙ ap (λ xs. (octet ∷ []) ++ xs) back ∙ ap (λ x. x ∷ (name ++ 34 ∷ [])) e,
      is_name inside parts.1 (word_some inside parts.1),
    )

is_string_token : (text : List ℕ) (k : TokenKind16) (size : ℕ) → get_or text 0 0 ≡ 34 → quoted text ≡ token k size → IsSpelled k text size
is_string_token [] k size h e = absurd (cc)
is_string_token (octet ∷ inside) k size h e = go (is_closed (prefix_len is_word inside) inside) refl e
  where
    go : (t : Bool) → is_closed (prefix_len is_word inside) inside ≡ t → cond t (token kind.Quoted (prefix_len is_word inside + 2)) (Err (L 1)) ≡ token k size → IsSpelled k (octet ∷ inside) size
    go false f e = absurd (is_no_token (Err (L 1)) k size (no_kind (L 1)) e)
    go true f e =
        subst (λ j. IsSpelled j (octet ∷ inside) size) (the_kind kind.Quoted k (prefix_len is_word inside + 2) size e)
        (subst (λ n. IsString (take n (octet ∷ inside))) (the_size kind.Quoted k (prefix_len is_word inside + 2) size e) (is_string octet inside h f))

-- the name of an annotation
not_true : (a : Bool) → not a ≡ true → a ≡ false
not_true true e = absurd (cc)
not_true false e = refl

annotation_found_is : (text : List ℕ) (a : Annotation16) → annotation_of text ≡ Some a → is_annotation a text ≡ true
annotation_found_is text a e = by (is_annotation annotated.Name text) refl (is_annotation annotated.FieldList text) refl e
  where
    by : (t : Bool) → is_annotation annotated.Name text ≡ t → (u : Bool) → is_annotation annotated.FieldList text ≡ u → cond t (Some annotated.Name) (cond u (Some annotated.FieldList) None) ≡ Some a → is_annotation a text ≡ true
    by true f u g e = let q : annotated.Name ≡ a = cc in subst (λ (b : Annotation16). is_annotation b text ≡ true) q f
    by false f true g e = let q : annotated.FieldList ≡ a = cc in subst (λ (b : Annotation16). is_annotation b text ≡ true) q g
    by false f false g e = absurd (cc)

annotation_spelled : (a : Annotation16) (text : List ℕ) → is_annotation a text ≡ true → (take (length (annotation_text16 a)) text ≡ annotation_text16 a) × (is_word (get_or text (length (annotation_text16 a)) 0) ≡ false)
annotation_spelled a text h =
    let behind = is_word (get_or text (length (annotation_text16 a)) 0) in
    let parts = and_parts (begins text (annotation_text16 a)) (not behind) h in
    (begins_as text (annotation_text16 a) parts.0, not_true behind parts.1)

is_annotation_token : (text : List ℕ) (k : TokenKind16) (size : ℕ) (found : Option Annotation16) → annotation_of text ≡ found → annotation_found found ≡ token k size → IsSpelled k text size
unfolding kind_of kind_of_what size_of
is_annotation_token text k size None f e = absurd (let h : None ≡ Some k = ap kind_of e in cc)
is_annotation_token text k size (Some a) f e =
    let q : kind.At a ≡ k = let h : Some (kind.At a) ≡ Some k = ap kind_of e in cc in
    let s : length (annotation_text16 a) ≡ size = ap size_of e in
    subst (λ j. IsSpelled j text size) q (subst (λ n. (take n text ≡ annotation_text16 a) × (is_word (get_or text n 0) ≡ false)) s
    (annotation_spelled a text (annotation_found_is text a f)))

-- an include line
include_found_is : (line : List ℕ) (i : Include16) → include_of line ≡ Some i → is_include i line ≡ true
include_found_is line i e = by (is_include included.Core line) refl (is_include included.V1Model line) refl e
  where
    by : (t : Bool) → is_include included.Core line ≡ t → (u : Bool) → is_include included.V1Model line ≡ u → cond t (Some included.Core) (cond u (Some included.V1Model) None) ≡ Some i → is_include i line ≡ true
    by true f u g e = let q : included.Core ≡ i = cc in subst (λ (j : Include16). is_include j line ≡ true) q f
    by false f true g e = let q : included.V1Model ≡ i = cc in subst (λ (j : Include16). is_include j line ≡ true) q g
    by false f false g e = absurd (cc)

include_spelled : (i : Include16) (text : List ℕ) → is_include i (first_line text) ≡ true → (take (length (include_text16 i)) text ≡ include_text16 i) × IsIncludeLine i (first_line text)
include_spelled i text h =
    let written = include_text16 i in
    let size = prefix_len is_on_line text in
    let line = take size text in
    let blanks = drop (length written) line in
    let parts = and_parts (begins line written) (list_all is_blank blanks) h in
    let front_is : take (length written) line ≡ written = begins_as line written parts.0 in
    let whole : written ++ blanks ≡ line = ap (λ xs. xs ++ blanks) (sym front_is) ∙ take-append-drop (length written) line in
    let room : length written ≤ size = omega (arith, ap length whole, length-append written blanks, length-take-le size text (prefix_len-le-length is_on_line text)) in
    (sym (take-take (length written) size text room) ∙ front_is, (blanks, sym whole, AllPass-from_list_all is_blank blanks parts.1))

is_include_token : (text : List ℕ) (k : TokenKind16) (size : ℕ) (found : Option Include16) → include_of (first_line text) ≡ found → include_found found ≡ token k size → IsSpelled k text size
unfolding kind_of kind_of_what size_of
is_include_token text k size None f e = absurd (let h : None ≡ Some k = ap kind_of e in cc)
is_include_token text k size (Some i) f e =
    let q : kind.Include i ≡ k = let h : Some (kind.Include i) ≡ Some k = ap kind_of e in cc in
    let s : length (include_text16 i) ≡ size = ap size_of e in
    subst (λ j. IsSpelled j text size) q (subst (λ n. (take n text ≡ include_text16 i) × IsIncludeLine i (first_line text)) s
    (include_spelled i text (include_found_is (first_line text) i f)))

-- a token by its first octet
pub spelled : (is_first : Bool) (text : List ℕ) (k : TokenKind16) (size : ℕ) → front is_first text ≡ token k size → IsSpelled k text size
unfolding kind_of kind_of_what
spelled is_first text k size e = by_head (head_of (get_or text 0 0)) (head_is (get_or text 0 0)) e
  where
    lined : (t : Bool) → cond t (include_line text) (Err (L 1)) ≡ token k size → IsSpelled k text size
    lined true e = is_include_token text k size (include_of (first_line text)) refl e
    lined false e = absurd (is_no_token (Err (L 1)) k size (no_kind (L 1)) e)

    by_head : (h : Head) → HeadIs (get_or text 0 0) h → front_by h is_first text ≡ token k size → IsSpelled k text size
    by_head head.Blank h e = absurd (is_no_token (Ok (record { what = what.Blank; size = 1 })) k size refl e)
    by_head head.Letter h e = is_name_token text k size h.0 (the_kind kind.Name k (prefix_len is_word text) size e) (the_size kind.Name k (prefix_len is_word text) size e)
    by_head head.Digit h e = is_number_token text k size h.0 e
    by_head head.Slash h e = absurd (is_no_token (skipped (comment_size text)) k size (skipped_kind (comment_size text)) e)
    by_head head.Quote h e = is_string_token text k size h e
    by_head head.AtSign h e = is_annotation_token text k size (annotation_of text) refl e
    by_head head.NumberSign h e = lined is_first e
    by_head head.Other h e = is_mark_token text k size (mark_at mark_text16 all_marks16 text) refl e

-- each token that is what the text begins with where the token begins
pub tokens_spelled : (text : List ℕ) (tokens : List (Token TokenKind16)) → All (IsPieceOf front text) tokens → All (λ t. IsSpelled t.kind (drop t.from text) (t.to - t.from)) tokens
tokens_spelled text tokens h k d l =
    let t = get_or tokens k d in
    let piece = h k d l in
    spelled piece.0 (drop t.from text) t.kind (t.to - t.from) piece.1
