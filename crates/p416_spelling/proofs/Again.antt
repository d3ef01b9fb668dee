-- A token that is written is found again, whatever follows that parts from it.
use Rattle.std.proofs.Common.{◌≡◌, nat_eq, nat_lt, ℕ, ◌+◌, ◌^◌, ◌<◌, ◌≤◌, Bool, true, false, List, [], ◌∷◌, ◌++◌, length, get_or, take, drop, refl, sym, ap, ◌∙◌, subst, arith, cond, append_assoc, length-append, Option, Some, None, Ok, Err}
use Rattle.std.specs.Prelude.{nat_le, ◌||◌, ◌&&◌, not}
use Rattle.std.specs.List.{list_all, list_any}
use Rattle.std.specs.Fmt.{decimal}
use Rattle.std.proofs.Math.Seq.{take-append_seam}
use Rattle.std.proofs.lemmas.Bool.{and_from, and_parts}
use Rattle.std.proofs.lemmas.Bool.Decides.{nat_tests}
use Rattle.p4x_fault.specs.declared.Rule.TheVariants.{L}
use Rattle.token_division.specs.declared.literals.Base.TheVariants.{Decimal}
use Rattle.token_division.specs.declared.division.What.TheVariants as what
use Rattle.token_division.specs.Octets.{is_blank, is_letter, is_decimal, is_word, is_on_line}
use Rattle.token_division.specs.Pieces.{begins}
use Rattle.token_division.specs.Literals.{value_of, literal_size, largest}
use Rattle.p416_syntax.specs.declared.lexeme.Annotation16.{Annotation16}
use Rattle.p416_syntax.specs.declared.lexeme.Annotation16.TheVariants as annotated
use Rattle.p416_syntax.specs.declared.lexeme.Include16.{Include16}
use Rattle.p416_syntax.specs.declared.lexeme.Include16.TheVariants as included
use Rattle.p416_syntax.specs.Marks.{mark_text16, all_marks16}
use Rattle.p416_syntax.specs.Lines.{annotation_text16, include_text16}
use Rattle.p416_syntax.specs.SpeltLexemes.{is_identifier16, is_width16}
use Rattle.p416_tok.specs.declared.kind.TokenKind16.{TokenKind16}
use Rattle.p416_tok.specs.declared.kind.TokenKind16.TheVariants as kind
use Rattle.p416_tok.specs.declared.front.Head.{Head}
use Rattle.p416_tok.specs.declared.front.Head.TheVariants as head
use Rattle.p416_tok.specs.Front.{token, number_kind, plain_number, wide_number, is_joined, bare_number, number_by, quoted_by, is_annotation, annotation_found, include_of, include_found, include_line, head_of, front_by, front}
use Rattle.token_sheet.specs.Spelling.{IsSpelling}
use Rattle.p416_spelling.specs.Spelled.{digits_text16, string_text16, spells16, parts16, begins_line16}
use Rattle.p416_spelling.proofs.Runs.{or_right, not_true, not_false, run_is, behind_first, second_behind, drop_two}
use Rattle.p416_spelling.proofs.Marks.{mark_again, feed_parts, mark_some}
use Rattle.p416_spelling.proofs.Numerals.{IsNumeral, numeral, size_again, value_again}

-- by the octet that it begins with
by_head : (is_first : Bool) (text : List ℕ) (h : Head) → head_of (get_or text 0 0) ≡ h → front is_first text ≡ front_by h is_first text
by_head is_first text h e = ap (λ x. front_by x is_first text) e

letter_facts : (b : ℕ) → is_letter b ≡ true → is_blank b ≡ false
letter_facts b e = grind (arith, nat_tests)

decimal_facts : (b : ℕ) → is_decimal b ≡ true → (is_blank b ≡ false) × (is_letter b ≡ false)
decimal_facts b e = grind (arith, nat_tests)

head_letter : (b : ℕ) → is_letter b ≡ true → head_of b ≡ head.Letter
head_letter b e = rw (letter_facts b e, e) refl

head_digit : (b : ℕ) → is_decimal b ≡ true → head_of b ≡ head.Digit
head_digit b e = rw ((decimal_facts b e).0, (decimal_facts b e).1, e) refl

head_blank : (b : ℕ) → is_blank b ≡ true → head_of b ≡ head.Blank
head_blank b e = rw e refl

-- names
name_again : (is_first : Bool) (o rest : List ℕ) → is_identifier16 o ≡ true → is_word (get_or rest 0 0) ≡ false → front is_first (o ++ rest) ≡ token kind.Name (length o)
name_again is_first [] rest h e = absurd (let k = (and_parts (is_letter 0) true h).0 in cc)
name_again is_first (a ∷ o) rest h e =
    let both = and_parts (is_letter a) (list_all is_word (a ∷ o)) h in
    by_head is_first ((a ∷ o) ++ rest) head.Letter (head_letter a both.0)
    ∙ ap (token kind.Name) (run_is is_word (a ∷ o) rest both.1 e)

-- numbers
no_decimal : (x : ℕ) → is_word x ≡ false → is_decimal x ≡ false
no_decimal x e = or_right (is_letter x) (is_decimal x) e

not_letter : (k x : ℕ) → is_word x ≡ false → is_word k ≡ true → nat_eq x k ≡ false
not_letter k x e f = go (nat_eq x k) refl
  where
    go : (t : Bool) → nat_eq x k ≡ t → t ≡ false
    go false h = refl
    go true h = let q : x ≡ k = grind (arith, nat_tests) in absurd (let z = sym f ∙ ap is_word (sym q) ∙ e in cc)

unjoined : (k : ℕ) (ds rest : List ℕ) → is_word k ≡ true → is_word (get_or rest 0 0) ≡ false → is_joined k (length ds) (ds ++ rest) ≡ false
unjoined k ds rest f e =
    ap (λ b. nat_eq b k && is_decimal (get_or (ds ++ rest) (length ds + 1) 0)) (behind_first ds rest)
    ∙ ap (λ t. t && is_decimal (get_or (ds ++ rest) (length ds + 1) 0)) (not_letter k (get_or rest 0 0) e f)

digits_front : (is_first : Bool) (ds rest : List ℕ) → 0 < length ds → list_all is_decimal ds ≡ true → is_decimal (get_or rest 0 0) ≡ false → front is_first (ds ++ rest) ≡ number_by (length ds) (ds ++ rest)
digits_front is_first [] rest l a e = absurd (omega arith)
digits_front is_first (d ∷ ds) rest l a e =
    by_head is_first ((d ∷ ds) ++ rest) head.Digit (head_digit d (and_parts (is_decimal d) (list_all is_decimal ds) a).0)
    ∙ ap (λ n. number_by n ((d ∷ ds) ++ rest)) (run_is is_decimal (d ∷ ds) rest a e)

not_over : (v : ℕ) → v < 2 ^ 128 → nat_lt largest v ≡ false
not_over v l = grind (arith, nat_tests)

plain_again : (ds rest : List ℕ) (v : ℕ) → v < 2 ^ 128 → IsNumeral v ds → is_word (get_or rest 0 0) ≡ false → plain_number (ds ++ rest) ≡ token (number_kind None v) (length ds)
plain_again ds rest v l h e =
    ap (λ u. cond (nat_lt largest u) (Err (L 3)) (token (number_kind None u) (literal_size (ds ++ rest)))) (value_again v ds rest h e)
    ∙ ap (λ t. cond t (Err (L 3)) (token (number_kind None v) (literal_size (ds ++ rest)))) (not_over v l)
    ∙ ap (token (number_kind None v)) (size_again v ds rest h e)

bare_again : (is_first : Bool) (ds rest : List ℕ) (v : ℕ) → v < 2 ^ 128 → IsNumeral v ds → is_word (get_or rest 0 0) ≡ false → front is_first (ds ++ rest) ≡ token (number_kind None v) (length ds)
bare_again is_first ds rest v l h e =
    digits_front is_first ds rest h.some h.digits (no_decimal (get_or rest 0 0) e)
    ∙ ap (λ t. cond t (wide_number (value_of Decimal (take (length ds) (ds ++ rest))) (length ds + 1) (drop (length ds + 1) (ds ++ rest))) (bare_number (length ds) (ds ++ rest))) (unjoined 119 ds rest refl e)
    ∙ ap (λ t. cond t (Err (L 1)) (plain_number (ds ++ rest))) (unjoined 115 ds rest refl e)
    ∙ plain_again ds rest v l h e

first_decimal : (e rest : List ℕ) → 0 < length e → list_all is_decimal e ≡ true → is_decimal (get_or (e ++ rest) 0 0) ≡ true
first_decimal [] rest l a = absurd (omega arith)
first_decimal (x ∷ e) rest l a = (and_parts (is_decimal x) (list_all is_decimal e) a).0

is_wide : (d e rest : List ℕ) → 0 < length e → list_all is_decimal e ≡ true → is_joined 119 (length d) (d ++ 119 ∷ (e ++ rest)) ≡ true
is_wide d e rest l a =
    and_from (nat_eq (get_or (d ++ 119 ∷ (e ++ rest)) (length d) 0) 119) (is_decimal (get_or (d ++ 119 ∷ (e ++ rest)) (length d + 1) 0))
    (ap (λ b. nat_eq b 119) (behind_first d (119 ∷ (e ++ rest)))) (ap is_decimal (second_behind d 119 (e ++ rest)) ∙ first_decimal e rest l a)

wide_part : (before w v : ℕ) (e rest : List ℕ) → 0 < w → w ≤ 128 → v < 2 ^ 128 → IsNumeral v e → is_word (get_or rest 0 0) ≡ false → wide_number w before (e ++ rest) ≡ token (number_kind (Some w) v) (before + length e)
wide_part before w v e rest p q l h n =
    let a : nat_lt w 1 ≡ false = grind (arith, nat_tests) in
    let b : nat_lt 128 w ≡ false = grind (arith, nat_tests) in
    ap (λ u. cond (nat_lt w 1 || (nat_lt 128 w || nat_lt largest u)) (Err (L 3)) (token (number_kind (Some w) u) (before + literal_size (e ++ rest)))) (value_again v e rest h n)
    ∙ ap (λ t. cond (t || (nat_lt 128 w || nat_lt largest v)) (Err (L 3)) (token (number_kind (Some w) v) (before + literal_size (e ++ rest)))) a
    ∙ ap (λ t. cond (t || nat_lt largest v) (Err (L 3)) (token (number_kind (Some w) v) (before + literal_size (e ++ rest)))) b
    ∙ ap (λ t. cond t (Err (L 3)) (token (number_kind (Some w) v) (before + literal_size (e ++ rest)))) (not_over v l)
    ∙ ap (λ m. token (number_kind (Some w) v) (before + m)) (size_again v e rest h n)

wide_again : (is_first : Bool) (d e rest : List ℕ) (w v : ℕ) → 0 < w → w ≤ 128 → v < 2 ^ 128 → IsNumeral w d → IsNumeral v e → is_word (get_or rest 0 0) ≡ false → front is_first (d ++ 119 ∷ (e ++ rest)) ≡ token (number_kind (Some w) v) (length (d ++ 119 ∷ e))
wide_again is_first d e rest w v p q l h k n =
    let text = d ++ 119 ∷ (e ++ rest) in
    let z : length d + 1 + length e ≡ length (d ++ 119 ∷ e) = omega (arith, length-append d (119 ∷ e)) in
    digits_front is_first d (119 ∷ (e ++ rest)) h.some h.digits refl
    ∙ ap (λ t. cond t (wide_number (value_of Decimal (take (length d) text)) (length d + 1) (drop (length d + 1) text)) (bare_number (length d) text)) (is_wide d e rest k.some k.digits)
    ∙ ap (λ s. wide_number (value_of Decimal (take (length d) text)) (length d + 1) s) (drop_two d 119 (e ++ rest))
    ∙ ap (λ s. wide_number (value_of Decimal s) (length d + 1) (e ++ rest)) (take-append_seam d (119 ∷ (e ++ rest)))
    ∙ ap (λ u. wide_number u (length d + 1) (e ++ rest)) h.value
    ∙ wide_part (length d + 1) w v e rest p q l k n
    ∙ ap (token (number_kind (Some w) v)) z

value_fits : (width : Option ℕ) (value : ℕ) → (is_width16 width && nat_lt value (2 ^ 128)) ≡ true → value < 2 ^ 128
value_fits width value h = let k = (and_parts (is_width16 width) (nat_lt value (2 ^ 128)) h).1 in grind (arith, nat_tests)

width_some : (width : ℕ) → is_width16 (Some width) ≡ true → 0 < width
width_some width h = let k = (and_parts (nat_le 1 width) (nat_le width 128) h).0 in grind (arith, nat_tests)

width_small : (width : ℕ) → is_width16 (Some width) ≡ true → width ≤ 128
width_small width h = let k = (and_parts (nat_le 1 width) (nat_le width 128) h).1 in grind (arith, nat_tests)

number_again : (is_first : Bool) (width : Option ℕ) (value : ℕ) (rest : List ℕ) → (is_width16 width && nat_lt value (2 ^ 128)) ≡ true → is_word (get_or rest 0 0) ≡ false → front is_first (digits_text16 width value ++ rest) ≡ token (number_kind width value) (length (digits_text16 width value))
number_again is_first None value rest h e = let l = value_fits None value h in bare_again is_first (decimal value) rest value l (numeral value l) e
number_again is_first (Some width) value rest h e =
    let l = value_fits (Some width) value h in
    let w = (and_parts (is_width16 (Some width)) (nat_lt value (2 ^ 128)) h).0 in
    let small = width_small width w in
    ap (front is_first) (append_assoc (decimal width) (119 ∷ decimal value) rest)
    ∙ wide_again is_first (decimal width) (decimal value) rest width value (width_some width w) small l (numeral width (omega (arith, small))) (numeral value l) e

number_some : (width : Option ℕ) (value : ℕ) → (is_width16 width && nat_lt value (2 ^ 128)) ≡ true → 0 < length (digits_text16 width value)
number_some None value h = (numeral value (value_fits None value h)).some
number_some (Some width) value h = omega (arith, length-append (decimal width) (119 ∷ decimal value))

-- strings
quoted_again : (is_first : Bool) (n rest : List ℕ) → is_identifier16 n ≡ true → front is_first (34 ∷ (n ++ 34 ∷ rest)) ≡ token kind.Quoted (length n + 2)
quoted_again is_first [] rest h = absurd (let k = (and_parts (is_letter 0) true h).0 in cc)
quoted_again is_first (a ∷ n) rest h =
    let both = and_parts (is_letter a) (list_all is_word (a ∷ n)) h in
    ap (λ k. quoted_by k (a ∷ (n ++ 34 ∷ rest))) (run_is is_word (a ∷ n) (34 ∷ rest) both.1 refl)
    ∙ ap (λ b. cond (nat_eq b 34 && is_letter a) (token kind.Quoted (length (a ∷ n) + 2)) (Err (L 1))) (behind_first (a ∷ n) (34 ∷ rest))
    ∙ ap (λ t. cond t (token kind.Quoted (length (a ∷ n) + 2)) (Err (L 1))) both.0

-- annotations
annotation_again : (is_first : Bool) (a : Annotation16) (rest : List ℕ) → is_word (get_or rest 0 0) ≡ false → front is_first (annotation_text16 a ++ rest) ≡ token (kind.At a) (length (annotation_text16 a))
annotation_again is_first annotated.Name rest e = ap (λ t. annotation_found (cond (not t) (Some annotated.Name) (cond (is_annotation annotated.FieldList (annotation_text16 annotated.Name ++ rest)) (Some annotated.FieldList) None))) e
annotation_again is_first annotated.FieldList rest e = ap (λ t. annotation_found (cond (not t) (Some annotated.FieldList) None)) e

annotation_some : (a : Annotation16) → 0 < length (annotation_text16 a)
annotation_some annotated.Name = omega arith
annotation_some annotated.FieldList = omega arith

-- include lines
include_is : (i : Include16) → include_of (include_text16 i) ≡ Some i
include_is included.Core = refl
include_is included.V1Model = refl

on_line : (i : Include16) → list_all is_on_line (include_text16 i) ≡ true
on_line included.Core = refl
on_line included.V1Model = refl

by_sign : (i : Include16) (rest : List ℕ) → front true (include_text16 i ++ rest) ≡ include_line (include_text16 i ++ rest)
by_sign included.Core rest = refl
by_sign included.V1Model rest = refl

include_some : (i : Include16) → 0 < length (include_text16 i)
include_some included.Core = omega arith
include_some included.V1Model = omega arith

ends_line : (x : ℕ) → nat_eq x 10 ≡ true → is_on_line x ≡ false
ends_line x e = ap not e

include_again : (i : Include16) (rest : List ℕ) → nat_eq (get_or rest 0 0) 10 ≡ true → front true (include_text16 i ++ rest) ≡ token (kind.Include i) (length (include_text16 i))
include_again i rest e =
    by_sign i rest
    ∙ ap (λ n. include_found (include_of (take n (include_text16 i ++ rest)))) (run_is is_on_line (include_text16 i) rest (on_line i) (ends_line (get_or rest 0 0) e))
    ∙ ap (λ xs. include_found (include_of xs)) (take-append_seam (include_text16 i) rest)
    ∙ ap include_found (include_is i)

-- each token
again16 : (is_first : Bool) (k : TokenKind16) (o rest : List ℕ) → spells16 k o → (begins_line16 k ≡ true → is_first ≡ true) → parts16 k o (get_or rest 0 0) ≡ true → front is_first (o ++ rest) ≡ token k (length o)
again16 is_first kind.Name o rest s b e = name_again is_first o rest s (not_true (is_word (get_or rest 0 0)) e)
again16 is_first (kind.Number n) o rest s b e =
    ap (λ xs. front is_first (xs ++ rest)) s.0 ∙ number_again is_first n.width n.value rest s.1 (not_true (is_word (get_or rest 0 0)) e) ∙ ap (λ xs. token (kind.Number n) (length xs)) (sym s.0)
again16 is_first (kind.Mark m) o rest s b e =
    let f = ap (λ xs. not (list_any (λ other. begins (mark_text16 other) (xs ++ get_or rest 0 0 ∷ [])) all_marks16)) (sym s) ∙ e in
    ap (λ xs. front is_first (xs ++ rest)) s ∙ mark_again is_first m rest (not_true _ f) ∙ ap (λ xs. token (kind.Mark m) (length xs)) (sym s)
again16 is_first kind.Quoted o rest s b e =
    let text = s.0 in
    let whole : o ++ rest ≡ 34 ∷ (text ++ 34 ∷ rest) = ap (λ xs. xs ++ rest) s.1 ∙ ap (λ xs. 34 ∷ xs) (append_assoc text (34 ∷ []) rest) in
    let size : length text + 2 ≡ length (string_text16 text) = omega (arith, length-append text (34 ∷ [])) in
    ap (front is_first) whole ∙ quoted_again is_first text rest s.2 ∙ ap (token kind.Quoted) (size ∙ ap length (sym s.1))
again16 is_first (kind.At a) o rest s b e =
    ap (λ xs. front is_first (xs ++ rest)) s ∙ annotation_again is_first a rest (not_true (is_word (get_or rest 0 0)) e) ∙ ap (λ xs. token (kind.At a) (length xs)) (sym s)
again16 is_first (kind.Include i) o rest s b e =
    ap (λ t. front t (o ++ rest)) (b refl) ∙ ap (λ xs. front true (xs ++ rest)) s ∙ include_again i rest e ∙ ap (λ xs. token (kind.Include i) (length xs)) (sym s)

name_some : (o : List ℕ) → is_identifier16 o ≡ true → 0 < length o
name_some [] h = absurd (let k = (and_parts (is_letter 0) true h).0 in cc)
name_some (a ∷ o) h = omega arith

some16 : (k : TokenKind16) (o : List ℕ) → spells16 k o → 0 < length o
some16 kind.Name o s = name_some o s
some16 (kind.Number n) o s = subst (λ (xs : List ℕ). 0 < length xs) (sym s.0) (number_some n.width n.value s.1)
some16 (kind.Mark m) o s = subst (λ (xs : List ℕ). 0 < length xs) (sym s) (mark_some m)
some16 kind.Quoted o s = subst (λ (xs : List ℕ). 0 < length xs) (sym s.1) (omega arith)
some16 (kind.At a) o s = subst (λ (xs : List ℕ). 0 < length xs) (sym s) (annotation_some a)
some16 (kind.Include i) o s = subst (λ (xs : List ℕ). 0 < length xs) (sym s) (include_some i)

feeds16 : (k : TokenKind16) (o : List ℕ) → spells16 k o → parts16 k o 10 ≡ true
feeds16 kind.Name o s = refl
feeds16 (kind.Number n) o s = refl
feeds16 (kind.Mark m) o s = subst (λ (xs : List ℕ). parts16 (kind.Mark m) xs 10 ≡ true) (sym s) (not_false _ (feed_parts m))
feeds16 kind.Quoted o s = refl
feeds16 (kind.At a) o s = refl
feeds16 (kind.Include i) o s = refl

blanks16 : (is_first : Bool) (octet : ℕ) (rest : List ℕ) → is_blank octet ≡ true → front is_first (octet ∷ rest) ≡ Ok (record { what = what.Blank; size = 1 })
blanks16 is_first octet rest e = by_head is_first (octet ∷ rest) head.Blank (head_blank octet e)

pub is_spelling16 : IsSpelling front spells16 parts16 begins_line16
is_spelling16 = record { again = again16; some = some16; feeds = feeds16; blanks = blanks16 }
