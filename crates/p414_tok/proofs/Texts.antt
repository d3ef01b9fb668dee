-- Numbers that are written in decimal digits, and what a text begins with that begins with a token and a blank.
use Rattle.std.proofs.Common.{◌≡◌, nat_eq, nat_lt, ℕ, zero, suc, ◌+◌, ◌*◌, ◌-◌, ◌/◌, ◌%◌, ◌^◌, ◌<◌, ◌≤◌, Bool, true, false, List, [], ◌∷◌, ◌++◌, length, get_or, take, drop, refl, sym, ap, ◌∙◌, subst, arith, cond, append_assoc, Option, Some, None, Result, Ok, Err}
use Rattle.std.specs.Prelude.{nat_le, ◌||◌, ◌&&◌}
use Rattle.std.specs.List.{fold, prefix_len, list_all}
use Rattle.std.specs.Fmt.{decimal}
use Rattle.std.proofs.Math.Nat.{mod-lt, mod-eq_of_lt, div-add-mod}
use Rattle.std.proofs.Math.Pow.{pow_mono}
use Rattle.std.proofs.lemmas.Fmt.{decimal_by_steps_wide}
use Rattle.std.proofs.lemmas.List.{take_at, drop_at, get_or_at, length-append}
use Rattle.std.proofs.lemmas.List.Sums.{fold-append}
use Rattle.std.proofs.lemmas.List.Folds.{list_all-append}
use Rattle.std.proofs.lemmas.Bool.{and_from, and_parts}
use Rattle.std.proofs.lemmas.Bool.Decides.{nat_tests}
use Rattle.p4x_fault.specs.declared.Rule.TheVariants.{L}
use Rattle.token_division.specs.declared.literals.Base.{Base}
use Rattle.token_division.specs.declared.literals.Base.TheVariants.{Binary, Decimal, Hexadecimal}
use Rattle.token_division.specs.Octets.{is_blank, is_letter, is_decimal, is_word}
use Rattle.token_division.specs.Literals.{with_digit, value_of, digit_value, is_digit, is_digit_or_gap, has_base_prefix, base_of, base_prefix_size, digits_of, literal_value, literal_size, largest}
use Rattle.p414_syntax.specs.declared.mark.Mark.{Mark}
use Rattle.p414_syntax.specs.declared.mark.Mark.TheVariants as mark
use Rattle.p414_syntax.specs.declared.lexeme.Lexeme.{Lexeme}
use Rattle.p414_syntax.specs.declared.lexeme.Lexeme.TheVariants as lexeme
use Rattle.p414_syntax.specs.Marks.{mark_text}
use Rattle.p414_syntax.specs.SpeltLexemes.{is_identifier, fits_in, is_spelt_lexeme}
use Rattle.p414_tok.specs.declared.kind.TokenKind14.{TokenKind14}
use Rattle.p414_tok.specs.declared.kind.TokenKind14.TheVariants as kind
use Rattle.p414_tok.specs.declared.front.Head.{Head}
use Rattle.p414_tok.specs.declared.front.Head.TheVariants as head
use Rattle.p414_tok.specs.Front.{Found, token, number_kind, plain_number, wide_number, is_quoted, number_by, number, head_of, front_by, front}

-- a number in decimal digits, with its width in front
abbrev pub number_text : Option ℕ → ℕ → List ℕ
number_text None value = decimal value
number_text (Some width) value = decimal width ++ 39 ∷ decimal value

abbrev pub lexeme_text : Lexeme → List ℕ
lexeme_text (lexeme.Name text) = text
lexeme_text (lexeme.Number n) = number_text n.width n.value
lexeme_text (lexeme.Mark m) = mark_text m

abbrev pub kind_of : Lexeme → TokenKind14
kind_of (lexeme.Name text) = kind.Name
kind_of (lexeme.Number n) = kind.Number n
kind_of (lexeme.Mark m) = kind.Mark m

-- decimal digits that stand for a number
record IsNumeral (n : ℕ) (ds : List ℕ) : Type 0 where
  pub value : value_of Decimal ds ≡ n
  pub digits : list_all is_decimal ds ≡ true
  pub some : 0 < length ds

no_gap : (d : ℕ) → d < 10 → nat_eq (48 + d) 95 ≡ false
no_gap d l = grind (arith, nat_tests)

no_small : (d : ℕ) → d < 10 → nat_le 97 (48 + d) ≡ false
no_small d l = grind (arith, nat_tests)

no_capital : (d : ℕ) → d < 10 → nat_le 65 (48 + d) ≡ false
no_capital d l = grind (arith, nat_tests)

digit_is : (d : ℕ) → d < 10 → digit_value (48 + d) ≡ d
digit_is d l =
    let same : (48 + d) - 48 ≡ d = omega arith in
    ap (λ t. cond t ((48 + d) - 87) (cond (nat_le 65 (48 + d)) ((48 + d) - 55) ((48 + d) - 48))) (no_small d l)
    ∙ ap (λ t. cond t ((48 + d) - 55) ((48 + d) - 48)) (no_capital d l) ∙ same

with_digit_is : (v d : ℕ) → d < 10 → with_digit Decimal v (48 + d) ≡ 10 * v + d
with_digit_is v d l = ap (λ t. cond t v (10 * v + digit_value (48 + d))) (no_gap d l) ∙ ap (λ x. 10 * v + x) (digit_is d l)

is_digit_code : (d : ℕ) → d < 10 → is_decimal (48 + d) ≡ true
is_digit_code d l = grind (arith, nat_tests)

one_digit : (n : ℕ) → n < 10 → IsNumeral n ((48 + n) ∷ [])
one_digit n l =
    let zero_value : 10 * 0 + n ≡ n = omega arith in
    record { value = with_digit_is 0 n l ∙ zero_value; digits = and_from (is_decimal (48 + n)) true (is_digit_code n l) refl; some = omega arith }

more_digits : (n : ℕ) (ds : List ℕ) → 10 ≤ n → IsNumeral (n / 10) ds → IsNumeral n (ds ++ (48 + n % 10) ∷ [])
more_digits n ds l h =
    let small : n % 10 < 10 = mod-lt n (omega arith) in
    let whole : 10 * (n / 10) + n % 10 ≡ n = omega (arith, div-add-mod n 10) in
    record {
      value = fold-append (with_digit Decimal) 0 ds ((48 + n % 10) ∷ []) ∙ ap (λ v. with_digit Decimal v (48 + n % 10)) h.value ∙ with_digit_is (n / 10) (n % 10) small ∙ whole;
      digits = list_all-append is_decimal ds ((48 + n % 10) ∷ []) ∙ and_from (list_all is_decimal ds) (is_decimal (48 + n % 10) && true) h.digits (and_from (is_decimal (48 + n % 10)) true (is_digit_code (n % 10) small) refl);
      some = omega (arith, length-append ds ((48 + n % 10) ∷ []));
    }

numeral : (n : ℕ) → n < 2 ^ 128 → IsNumeral n (decimal n)
numeral n l = decimal_by_steps_wide IsNumeral one_digit more_digits n (omega (arith, l))

-- a run of octets that ends at one that doesn't pass
run_ends : (p : ℕ → Bool) (xs : List ℕ) (c : ℕ) (rest : List ℕ) → list_all p xs ≡ true → p c ≡ false → prefix_len p (xs ++ c ∷ rest) ≡ length xs
run_ends p [] c rest h e = ap (λ t. cond t (1 + prefix_len p rest) 0) e
run_ends p (x ∷ xs) c rest h e =
    let parts = and_parts (p x) (list_all p xs) h in
    let one_more : 1 + length xs ≡ length (x ∷ xs) = omega arith in
    ap (λ t. cond t (1 + prefix_len p (xs ++ c ∷ rest)) 0) parts.0 ∙ ap (λ n. 1 + n) (run_ends p xs c rest parts.1 e) ∙ one_more

or_true : (a b : Bool) → b ≡ true → (a || b) ≡ true
or_true true b e = refl
or_true false b e = e

with_gaps : (ds : List ℕ) → list_all is_decimal ds ≡ true → list_all (is_digit_or_gap Decimal) ds ≡ true
with_gaps [] h = refl
with_gaps (d ∷ ds) h =
    let parts = and_parts (is_decimal d) (list_all is_decimal ds) h in
    and_from (is_digit_or_gap Decimal d) (list_all (is_digit_or_gap Decimal) ds) (or_true (nat_eq d 95) (is_decimal d) parts.0) (with_gaps ds parts.1)

-- digits have no base in front
no_prefix : (a b c : Bool) → b ≡ false → (a && (b && c)) ≡ false
no_prefix true true c e = absurd (cc)
no_prefix true false c e = refl
no_prefix false b c e = refl

no_letter_x : (d : ℕ) → is_decimal d ≡ true → (nat_eq d 88 || nat_eq d 120) ≡ false
no_letter_x d h = grind (arith, nat_tests)

no_letter_b : (d : ℕ) → is_decimal d ≡ true → (nat_eq d 66 || nat_eq d 98) ≡ false
no_letter_b d h = grind (arith, nat_tests)

by_tests : (text : List ℕ) → has_base_prefix 88 120 Hexadecimal text ≡ false → has_base_prefix 66 98 Binary text ≡ false → base_of text ≡ Decimal
by_tests text h b = ap (λ t. cond t Hexadecimal (cond (has_base_prefix 66 98 Binary text) Binary Decimal)) h ∙ ap (λ t. cond t Binary Decimal) b

base_is : (ds rest : List ℕ) → list_all is_decimal ds ≡ true → 0 < length ds → base_of (ds ++ 32 ∷ rest) ≡ Decimal
base_is [] rest h s = absurd (omega arith)
base_is (a ∷ []) rest h s = by_tests (a ∷ 32 ∷ rest) (no_prefix (nat_eq a 48) (nat_eq 32 88 || nat_eq 32 120) (is_digit Hexadecimal (get_or (a ∷ 32 ∷ rest) 2 0)) refl) (no_prefix (nat_eq a 48) (nat_eq 32 66 || nat_eq 32 98) (is_digit Binary (get_or (a ∷ 32 ∷ rest) 2 0)) refl)
base_is (a ∷ b ∷ ds) rest h s =
    let second = (and_parts (is_decimal b) (list_all is_decimal ds) (and_parts (is_decimal a) (is_decimal b && list_all is_decimal ds) h).1).0 in
    by_tests (a ∷ b ∷ (ds ++ 32 ∷ rest)) (no_prefix (nat_eq a 48) (nat_eq b 88 || nat_eq b 120) (is_digit Hexadecimal (get_or (a ∷ b ∷ (ds ++ 32 ∷ rest)) 2 0)) (no_letter_x b second)) (no_prefix (nat_eq a 48) (nat_eq b 66 || nat_eq b 98) (is_digit Binary (get_or (a ∷ b ∷ (ds ++ 32 ∷ rest)) 2 0)) (no_letter_b b second))

gap_run : (ds rest : List ℕ) → list_all is_decimal ds ≡ true → prefix_len (is_digit_or_gap Decimal) (ds ++ 32 ∷ rest) ≡ length ds
gap_run ds rest h = run_ends (is_digit_or_gap Decimal) ds 32 rest (with_gaps ds h) refl

value_is : (v : ℕ) (ds rest : List ℕ) → IsNumeral v ds → literal_value (ds ++ 32 ∷ rest) ≡ v
value_is v ds rest h =
    let text = ds ++ 32 ∷ rest in
    ap (λ b. value_of b (digits_of b text)) (base_is ds rest h.digits h.some)
    ∙ ap (λ n. value_of Decimal (take n text)) (gap_run ds rest h.digits)
    ∙ ap (value_of Decimal) (take_at ds (32 ∷ rest) (length ds) refl) ∙ h.value

size_is : (v : ℕ) (ds rest : List ℕ) → IsNumeral v ds → literal_size (ds ++ 32 ∷ rest) ≡ length ds
size_is v ds rest h =
    let text = ds ++ 32 ∷ rest in
    let run = prefix_len (is_digit_or_gap Decimal) text in
    let no_more : 0 + run ≡ run = omega arith in
    ap (λ b. base_prefix_size b + prefix_len (is_digit_or_gap b) (drop (base_prefix_size b) text)) (base_is ds rest h.digits h.some)
    ∙ no_more ∙ gap_run ds rest h.digits

not_over : (a b : ℕ) → b ≤ a → nat_lt a b ≡ false
not_over a b h = grind (arith, nat_tests)

-- a number without a width
plain_is : (v : ℕ) (ds rest : List ℕ) → IsNumeral v ds → v < 2 ^ 128 → number (ds ++ 32 ∷ rest) ≡ token (number_kind None v) (length ds)
plain_is v ds rest h l =
    let text = ds ++ 32 ∷ rest in
    let unquoted : is_quoted (length ds) text ≡ false = ap (λ x. nat_eq x 39 && is_decimal (get_or text (length ds + 1) 0)) (get_or_at ds 32 rest 0 (length ds) refl) in
    ap (λ n. number_by n text) (run_ends is_decimal ds 32 rest h.digits refl)
    ∙ ap (λ t. cond t (wide_number (value_of Decimal (take (length ds) text)) (length ds + 1) (drop (length ds + 1) text)) (plain_number text)) unquoted
    ∙ ap (λ x. cond (nat_lt largest x) (Err (L 3)) (token (number_kind None x) (literal_size text))) (value_is v ds rest h)
    ∙ ap (λ t. cond t (Err (L 3)) (token (number_kind None v) (literal_size text))) (not_over largest v (omega (arith, l)))
    ∙ ap (λ n. token (number_kind None v) n) (size_is v ds rest h)

or_none : (a b c : Bool) → a ≡ false → b ≡ false → c ≡ false → (a || (b || c)) ≡ false
or_none true b c e f g = absurd (cc)
or_none false true c e f g = absurd (cc)
or_none false false c e f g = g

-- a number of a width, behind the width and the quote
wide_by : (w v before : ℕ) (ds rest : List ℕ) → IsNumeral v ds → 1 ≤ w → w ≤ 128 → v < 2 ^ w → wide_number w before (ds ++ 32 ∷ rest) ≡ token (number_kind (Some w) v) (before + length ds)
wide_by w v before ds rest h p q l =
    let text = ds ++ 32 ∷ rest in
    let most = pow_mono q in
    ap (λ x. cond (nat_lt w 1 || (nat_lt 128 w || nat_lt largest x)) (Err (L 3)) (token (number_kind (Some w) (x % 2 ^ w)) (before + literal_size text))) (value_is v ds rest h)
    ∙ ap (λ t. cond t (Err (L 3)) (token (number_kind (Some w) (v % 2 ^ w)) (before + literal_size text))) (or_none (nat_lt w 1) (nat_lt 128 w) (nat_lt largest v) (not_over w 1 p) (not_over 128 w q) (not_over largest v (omega (arith, l, most))))
    ∙ ap (λ x. token (number_kind (Some w) x) (before + literal_size text)) (mod-eq_of_lt l)
    ∙ ap (λ n. token (number_kind (Some w) v) (before + n)) (size_is v ds rest h)

first_digit : (ds rest : List ℕ) → list_all is_decimal ds ≡ true → 0 < length ds → is_decimal (get_or (ds ++ rest) 0 0) ≡ true
first_digit [] rest h s = absurd (omega arith)
first_digit (d ∷ ds) rest h s = (and_parts (is_decimal d) (list_all is_decimal ds) h).0

behind_quote : (ds rest : List ℕ) (n : ℕ) → n ≡ length ds → get_or (ds ++ 39 ∷ rest) (n + 1) 0 ≡ get_or rest 0 0
behind_quote [] rest n e = ap (λ m. get_or (39 ∷ rest) (m + 1) 0) e
behind_quote (d ∷ ds) rest zero e = absurd (omega (arith, e))
behind_quote (d ∷ ds) rest (suc n) e =
    let next : suc n + 1 ≡ suc (n + 1) = omega arith in
    ap (λ m. get_or (d ∷ (ds ++ 39 ∷ rest)) m 0) next ∙ behind_quote ds rest n (omega (arith, e))

wide_is : (w v : ℕ) (ws ds rest : List ℕ) → IsNumeral w ws → IsNumeral v ds → 1 ≤ w → w ≤ 128 → v < 2 ^ w → number (ws ++ 39 ∷ (ds ++ 32 ∷ rest)) ≡ token (number_kind (Some w) v) (length ws + 1 + length ds)
wide_is w v ws ds rest g h p q l =
    let value = ds ++ 32 ∷ rest in
    let text = ws ++ 39 ∷ value in
    let n = length ws in
    let digit : is_decimal (get_or text (n + 1) 0) ≡ true = ap is_decimal (behind_quote ws value n refl) ∙ first_digit ds (32 ∷ rest) h.digits h.some in
    let quoted : is_quoted n text ≡ true = and_from (nat_eq (get_or text n 0) 39) (is_decimal (get_or text (n + 1) 0)) (ap (λ x. nat_eq x 39) (get_or_at ws 39 value 0 n refl)) digit in
    let parts : (ws ++ 39 ∷ []) ++ value ≡ text = append_assoc ws (39 ∷ []) value in
    let rest_is : drop (n + 1) text ≡ value = ap (drop (n + 1)) (sym parts) ∙ drop_at (ws ++ 39 ∷ []) value (n + 1) (length-append ws (39 ∷ [])) in
    ap (λ m. number_by m text) (run_ends is_decimal ws 39 value g.digits refl)
    ∙ ap (λ t. cond t (wide_number (value_of Decimal (take n text)) (n + 1) (drop (n + 1) text)) (plain_number text)) quoted
    ∙ ap (λ xs. wide_number (value_of Decimal xs) (n + 1) (drop (n + 1) text)) (take_at ws (39 ∷ value) n refl)
    ∙ ap (λ m. wide_number m (n + 1) (drop (n + 1) text)) g.value
    ∙ ap (wide_number w (n + 1)) rest_is
    ∙ wide_by w v (n + 1) ds rest h p q l

-- what a text begins with, by its first octet
no_blank_digit : (d : ℕ) → is_decimal d ≡ true → is_blank d ≡ false
no_blank_digit d h = grind (arith, nat_tests)

no_letter_digit : (d : ℕ) → is_decimal d ≡ true → is_letter d ≡ false
no_letter_digit d h = grind (arith, nat_tests)

no_blank_letter : (d : ℕ) → is_letter d ≡ true → is_blank d ≡ false
no_blank_letter d h = grind (arith, nat_tests)

head_digit : (blank letter decimal slash at_sign number_sign : Bool) → blank ≡ false → letter ≡ false → decimal ≡ true → cond blank head.Blank (cond letter head.Letter (cond decimal head.Digit (cond slash head.Slash (cond at_sign head.AtSign (cond number_sign head.NumberSign head.Other))))) ≡ head.Digit
head_digit blank letter decimal slash at_sign number_sign b l d =
    ap (λ t. cond t head.Blank (cond letter head.Letter (cond decimal head.Digit (cond slash head.Slash (cond at_sign head.AtSign (cond number_sign head.NumberSign head.Other)))))) b
    ∙ ap (λ t. cond t head.Letter (cond decimal head.Digit (cond slash head.Slash (cond at_sign head.AtSign (cond number_sign head.NumberSign head.Other))))) l
    ∙ ap (λ t. cond t head.Digit (cond slash head.Slash (cond at_sign head.AtSign (cond number_sign head.NumberSign head.Other)))) d

by_digit : (is_first : Bool) (text : List ℕ) → is_decimal (get_or text 0 0) ≡ true → front is_first text ≡ number text
by_digit is_first text h =
    let d = get_or text 0 0 in
    ap (λ x. front_by x is_first text) (head_digit (is_blank d) (is_letter d) (is_decimal d) (nat_eq d 47) (nat_eq d 64) (nat_eq d 35) (no_blank_digit d h) (no_letter_digit d h) h)

head_letter : (blank letter decimal slash at_sign number_sign : Bool) → blank ≡ false → letter ≡ true → cond blank head.Blank (cond letter head.Letter (cond decimal head.Digit (cond slash head.Slash (cond at_sign head.AtSign (cond number_sign head.NumberSign head.Other))))) ≡ head.Letter
head_letter blank letter decimal slash at_sign number_sign b l =
    ap (λ t. cond t head.Blank (cond letter head.Letter (cond decimal head.Digit (cond slash head.Slash (cond at_sign head.AtSign (cond number_sign head.NumberSign head.Other)))))) b
    ∙ ap (λ t. cond t head.Letter (cond decimal head.Digit (cond slash head.Slash (cond at_sign head.AtSign (cond number_sign head.NumberSign head.Other))))) l

by_letter : (is_first : Bool) (text : List ℕ) → is_letter (get_or text 0 0) ≡ true → front is_first text ≡ token kind.Name (prefix_len is_word text)
by_letter is_first text h =
    let d = get_or text 0 0 in
    ap (λ x. front_by x is_first text) (head_letter (is_blank d) (is_letter d) (is_decimal d) (nat_eq d 47) (nat_eq d 64) (nat_eq d 35) (no_blank_letter d h) h)

-- each token, and a blank behind it
name_front : (text : List ℕ) → is_identifier text ≡ true → (is_first : Bool) (rest : List ℕ) → front is_first (text ++ 32 ∷ rest) ≡ token kind.Name (length text)
name_front [] h is_first rest = absurd (cc)
name_front (x ∷ xs) h is_first rest =
    let parts = and_parts (is_letter x) (list_all is_word (x ∷ xs)) h in
    by_letter is_first ((x ∷ xs) ++ 32 ∷ rest) parts.0 ∙ ap (token kind.Name) (run_ends is_word (x ∷ xs) 32 rest parts.1 refl)

below : (a b : ℕ) → nat_lt a b ≡ true → a < b
below a b h = grind (arith, nat_tests)

at_most : (a b : ℕ) → nat_le a b ≡ true → a ≤ b
at_most a b h = grind (arith, nat_tests)

number_front : (width : Option ℕ) (value : ℕ) → fits_in width value ≡ true → (is_first : Bool) (rest : List ℕ) → front is_first (number_text width value ++ 32 ∷ rest) ≡ token (number_kind width value) (length (number_text width value))
number_front None value h is_first rest =
    let l = below value (2 ^ 128) h in
    let n = numeral value l in
    by_digit is_first (decimal value ++ 32 ∷ rest) (first_digit (decimal value) (32 ∷ rest) n.digits n.some) ∙ plain_is value (decimal value) rest n l
number_front (Some width) value h is_first rest =
    let first = and_parts (nat_le 1 width) (nat_le width 128 && nat_lt value (2 ^ width)) h in
    let second = and_parts (nat_le width 128) (nat_lt value (2 ^ width)) first.1 in
    let least = at_most 1 width first.0 in
    let most = at_most width 128 second.0 in
    let l = below value (2 ^ width) second.1 in
    let power = pow_mono most in
    let w = numeral width (omega (arith, most)) in
    let v = numeral value (omega (arith, l, power)) in
    let ws = decimal width in
    let ds = decimal value in
    let parts : (ws ++ 39 ∷ ds) ++ 32 ∷ rest ≡ ws ++ 39 ∷ (ds ++ 32 ∷ rest) = append_assoc ws (39 ∷ ds) (32 ∷ rest) in
    let size : length ws + 1 + length ds ≡ length (ws ++ 39 ∷ ds) = omega (arith, length-append ws (39 ∷ ds)) in
    ap (front is_first) parts ∙ by_digit is_first (ws ++ 39 ∷ (ds ++ 32 ∷ rest)) (first_digit ws (39 ∷ (ds ++ 32 ∷ rest)) w.digits w.some)
    ∙ wide_is width value ws ds rest w v least most l ∙ ap (token (number_kind (Some width) value)) size

mark_front : (m : Mark) (is_first : Bool) (rest : List ℕ) → front is_first (mark_text m ++ 32 ∷ rest) ≡ token (kind.Mark m) (length (mark_text m))
mark_front mark.BraceOpen is_first rest = refl
mark_front mark.BraceClose is_first rest = refl
mark_front mark.ParenOpen is_first rest = refl
mark_front mark.ParenClose is_first rest = refl
mark_front mark.BracketOpen is_first rest = refl
mark_front mark.BracketClose is_first rest = refl
mark_front mark.Semicolon is_first rest = refl
mark_front mark.Colon is_first rest = refl
mark_front mark.Comma is_first rest = refl
mark_front mark.Dot is_first rest = refl
mark_front mark.Assign is_first rest = refl
mark_front mark.Less is_first rest = refl
mark_front mark.Greater is_first rest = refl
mark_front mark.LessEqual is_first rest = refl
mark_front mark.GreaterEqual is_first rest = refl
mark_front mark.Equal is_first rest = refl
mark_front mark.NotEqual is_first rest = refl
mark_front mark.ShiftLeft is_first rest = refl
mark_front mark.ShiftRight is_first rest = refl
mark_front mark.Plus is_first rest = refl
mark_front mark.Minus is_first rest = refl
mark_front mark.Star is_first rest = refl
mark_front mark.Ampersand is_first rest = refl
mark_front mark.Bar is_first rest = refl
mark_front mark.Caret is_first rest = refl
mark_front mark.Tilde is_first rest = refl

pub lexeme_front : (l : Lexeme) → is_spelt_lexeme l ≡ true → (is_first : Bool) (rest : List ℕ) → front is_first (lexeme_text l ++ 32 ∷ rest) ≡ token (kind_of l) (length (lexeme_text l))
lexeme_front (lexeme.Name text) h is_first rest = name_front text h is_first rest
lexeme_front (lexeme.Number n) h is_first rest = number_front n.width n.value h is_first rest
lexeme_front (lexeme.Mark m) h is_first rest = mark_front m is_first rest

some_number : (width : Option ℕ) (value : ℕ) → fits_in width value ≡ true → 0 < length (number_text width value)
some_number None value h = (numeral value (below value (2 ^ 128) h)).some
some_number (Some width) value h = omega (arith, length-append (decimal width) (39 ∷ decimal value))

some_name : (text : List ℕ) → is_identifier text ≡ true → 0 < length text
some_name [] h = absurd (cc)
some_name (x ∷ xs) h = omega arith

some_mark : (m : Mark) → 0 < length (mark_text m)
some_mark mark.BraceOpen = omega arith
some_mark mark.BraceClose = omega arith
some_mark mark.ParenOpen = omega arith
some_mark mark.ParenClose = omega arith
some_mark mark.BracketOpen = omega arith
some_mark mark.BracketClose = omega arith
some_mark mark.Semicolon = omega arith
some_mark mark.Colon = omega arith
some_mark mark.Comma = omega arith
some_mark mark.Dot = omega arith
some_mark mark.Assign = omega arith
some_mark mark.Less = omega arith
some_mark mark.Greater = omega arith
some_mark mark.LessEqual = omega arith
some_mark mark.GreaterEqual = omega arith
some_mark mark.Equal = omega arith
some_mark mark.NotEqual = omega arith
some_mark mark.ShiftLeft = omega arith
some_mark mark.ShiftRight = omega arith
some_mark mark.Plus = omega arith
some_mark mark.Minus = omega arith
some_mark mark.Star = omega arith
some_mark mark.Ampersand = omega arith
some_mark mark.Bar = omega arith
some_mark mark.Caret = omega arith
some_mark mark.Tilde = omega arith

pub some_text : (l : Lexeme) → is_spelt_lexeme l ≡ true → 0 < length (lexeme_text l)
some_text (lexeme.Name text) h = some_name text h
some_text (lexeme.Number n) h = some_number n.width n.value h
some_text (lexeme.Mark m) h = some_mark m
