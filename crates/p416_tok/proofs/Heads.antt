-- What the first octet of a piece tells, and that no token has a line feed.
use Rattle.std.proofs.Common.{◌≡◌, ◌⊎◌, inl, inr, nat_eq, ℕ, ◌<◌, ◌≤◌, Bool, true, false, List, [], ◌∷◌, ◌++◌, length, get_or, take, refl, sym, ap, ◌∙◌, subst, arith, cond, codes, Option, Some, None, Result, Ok, Err}
use Rattle.std.specs.Prelude.{not, ◌&&◌}
use Rattle.std.specs.List.{AllPass, list_all}
use Rattle.std.proofs.lemmas.List.Folds.{list_all-append}
use Rattle.std.proofs.lemmas.List.Sums.{AllPass-from_list_all, list_all-from_AllPass}
use Rattle.std.proofs.lemmas.Bool.{and_from, and_parts}
use Rattle.std.proofs.lemmas.Bool.Decides.{nat_tests}
use Rattle.token_division.specs.declared.literals.Base.{Base}
use Rattle.token_division.specs.declared.literals.Base.TheVariants.{Binary, Decimal, Hexadecimal}
use Rattle.token_division.specs.Octets.{is_blank, is_letter, is_decimal, is_word, is_line_feed, is_on_line}
use Rattle.token_division.specs.Literals.{IsBasePrefix, IsLiteral, is_digit_or_gap}
use Rattle.p416_syntax.specs.declared.mark.Mark16.{Mark16}
use Rattle.p416_syntax.specs.declared.lexeme.Annotation16.{Annotation16}
use Rattle.p416_syntax.specs.declared.lexeme.Annotation16.TheVariants as annotated
use Rattle.p416_syntax.specs.declared.lexeme.Include16.{Include16}
use Rattle.p416_syntax.specs.declared.lexeme.Include16.TheVariants as included
use Rattle.p416_syntax.specs.Marks.{mark_text16, all_marks16}
use Rattle.p416_syntax.specs.Lines.{annotation_text16, include_text16}
use Rattle.p416_syntax.proofs.AllMarks.{of_all_marks}
use Rattle.p416_tok.specs.declared.kind.TokenKind16.{TokenKind16}
use Rattle.p416_tok.specs.declared.kind.TokenKind16.TheVariants as kind
use Rattle.p416_tok.specs.declared.front.Head.{Head}
use Rattle.p416_tok.specs.declared.front.Head.TheVariants as head
use Rattle.p416_tok.specs.Front.{head_of}
use Rattle.p416_tok.specs.Spelled.{IsNumber, IsString, IsSpelled}

pub equal : (a b : ℕ) → nat_eq a b ≡ true → a ≡ b
equal a b e = grind (arith, nat_tests)

pub record IsOther (octet : ℕ) : Type 0 where
  pub no_blank : is_blank octet ≡ false
  pub no_letter : is_letter octet ≡ false
  pub no_decimal : is_decimal octet ≡ false
  pub no_slash : nat_eq octet 47 ≡ false
  pub no_quote : nat_eq octet 34 ≡ false
  pub no_at_sign : nat_eq octet 64 ≡ false
  pub no_number_sign : nat_eq octet 35 ≡ false

abbrev pub HeadIs : ℕ → Head → Type 0
HeadIs octet head.Blank = is_blank octet ≡ true
HeadIs octet head.Letter = (is_letter octet ≡ true) × (is_blank octet ≡ false)
HeadIs octet head.Digit = (is_decimal octet ≡ true) × (is_blank octet ≡ false)
HeadIs octet head.Slash = octet ≡ 47
HeadIs octet head.Quote = octet ≡ 34
HeadIs octet head.AtSign = octet ≡ 64
HeadIs octet head.NumberSign = octet ≡ 35
HeadIs octet head.Other = IsOther octet

pub head_is : (octet : ℕ) → HeadIs octet (head_of octet)
head_is octet = by (is_blank octet) (is_letter octet) (is_decimal octet) (nat_eq octet 47) (nat_eq octet 34) (nat_eq octet 64) (nat_eq octet 35) refl refl refl refl refl refl refl
  where
    by : (b l d s q a n : Bool) → is_blank octet ≡ b → is_letter octet ≡ l → is_decimal octet ≡ d → nat_eq octet 47 ≡ s → nat_eq octet 34 ≡ q → nat_eq octet 64 ≡ a → nat_eq octet 35 ≡ n → HeadIs octet (cond b head.Blank (cond l head.Letter (cond d head.Digit (cond s head.Slash (cond q head.Quote (cond a head.AtSign (cond n head.NumberSign head.Other)))))))
    by true l d s q a n e f g h i j k = e
    by false true d s q a n e f g h i j k = (f, e)
    by false false true s q a n e f g h i j k = (g, e)
    by false false false true q a n e f g h i j k = equal octet 47 h
    by false false false false true a n e f g h i j k = equal octet 34 i
    by false false false false false true n e f g h i j k = equal octet 64 j
    by false false false false false false true e f g h i j k = equal octet 35 k
    by false false false false false false false e f g h i j k = record { no_blank = e; no_letter = f; no_decimal = g; no_slash = h; no_quote = i; no_at_sign = j; no_number_sign = k }

pub no_blank_by : (octet : ℕ) (h : Head) → HeadIs octet h → (h ≡ head.Blank → ⊥) → is_blank octet ≡ false
no_blank_by octet head.Blank h n = absurd (n refl)
no_blank_by octet head.Letter h n = h.1
no_blank_by octet head.Digit h n = h.1
no_blank_by octet head.Slash h n = ap is_blank h
no_blank_by octet head.Quote h n = ap is_blank h
no_blank_by octet head.AtSign h n = ap is_blank h
no_blank_by octet head.NumberSign h n = ap is_blank h
no_blank_by octet head.Other h n = h.no_blank

-- octets that pass a test that a line feed doesn't pass
on_line_by : (p : ℕ → Bool) (xs : List ℕ) → p 10 ≡ false → AllPass p xs → AllPass is_on_line xs
on_line_by p xs z h k d l = by (is_line_feed (get_or xs k d)) refl
  where
    by : (t : Bool) → is_line_feed (get_or xs k d) ≡ t → not t ≡ true
    by false e = refl
    by true e = absurd (let f : true ≡ false = sym (h k d l) ∙ ap p (equal (get_or xs k d) 10 e) ∙ z in cc)

pass_append : (p : ℕ → Bool) (xs ys : List ℕ) → AllPass p xs → AllPass p ys → AllPass p (xs ++ ys)
pass_append p xs ys h k = AllPass-from_list_all p (xs ++ ys) (list_all-append p xs ys ∙ and_from (list_all p xs) (list_all p ys) (list_all-from_AllPass p xs h) (list_all-from_AllPass p ys k))

prefix_on_line : (base : Base) (octets : List ℕ) → IsBasePrefix base octets → AllPass is_on_line octets
prefix_on_line Decimal octets e = AllPass-from_list_all is_on_line octets (ap (list_all is_on_line) e)
prefix_on_line Binary octets (inl e) = AllPass-from_list_all is_on_line octets (ap (list_all is_on_line) e)
prefix_on_line Binary octets (inr e) = AllPass-from_list_all is_on_line octets (ap (list_all is_on_line) e)
prefix_on_line Hexadecimal octets (inl e) = AllPass-from_list_all is_on_line octets (ap (list_all is_on_line) e)
prefix_on_line Hexadecimal octets (inr e) = AllPass-from_list_all is_on_line octets (ap (list_all is_on_line) e)

no_feed : (base : Base) → is_digit_or_gap base 10 ≡ false
no_feed Decimal = refl
no_feed Binary = refl
no_feed Hexadecimal = refl

literal_on_line : (octets : List ℕ) (value : ℕ) → IsLiteral octets value → AllPass is_on_line octets
literal_on_line octets value h = subst (AllPass is_on_line) (sym h.parts) (pass_append is_on_line h.prefix h.digits (prefix_on_line h.base h.prefix h.has_prefix) (on_line_by (is_digit_or_gap h.base) h.digits (no_feed h.base) h.has_digits.1))

number_on_line : (width : Option ℕ) (value : ℕ) (octets : List ℕ) → IsNumber width value octets → AllPass is_on_line octets
number_on_line None value octets h = literal_on_line octets value h.0
number_on_line (Some width) value octets h =
    subst (AllPass is_on_line) (sym h.parts) (pass_append is_on_line h.digits (119 ∷ h.rest) (on_line_by is_decimal h.digits refl h.has_digits)
    (pass_append is_on_line (119 ∷ []) h.rest (AllPass-from_list_all is_on_line (119 ∷ []) refl) (literal_on_line h.rest value h.has_number)))

name_on_line : (name : List ℕ) → (is_letter (get_or name 0 0) && list_all is_word name) ≡ true → AllPass is_on_line name
name_on_line name e = on_line_by is_word name refl (AllPass-from_list_all is_word name (and_parts (is_letter (get_or name 0 0)) (list_all is_word name) e).1)

quote_on_line : AllPass is_on_line (34 ∷ [])
quote_on_line = AllPass-from_list_all is_on_line (34 ∷ []) refl

string_on_line : (octets : List ℕ) → IsString octets → AllPass is_on_line octets
string_on_line octets h =
    subst (AllPass is_on_line) (sym h.1)
    (pass_append is_on_line (34 ∷ []) (h.0 ++ 34 ∷ []) quote_on_line (pass_append is_on_line h.0 (34 ∷ []) (name_on_line h.0 h.2) quote_on_line))

mark_on_line : (m : Mark16) → list_all is_on_line (mark_text16 m) ≡ true
mark_on_line = of_all_marks (λ m. list_all is_on_line (mark_text16 m) ≡ true) (AllPass-from_list_all (λ m. list_all is_on_line (mark_text16 m)) all_marks16 refl)

annotation_on_line : (a : Annotation16) → list_all is_on_line (annotation_text16 a) ≡ true
annotation_on_line annotated.Name = refl
annotation_on_line annotated.FieldList = refl

include_on_line : (i : Include16) → list_all is_on_line (include_text16 i) ≡ true
include_on_line included.Core = refl
include_on_line included.V1Model = refl

pub spelled_on_line : (k : TokenKind16) (text : List ℕ) (size : ℕ) → IsSpelled k text size → AllPass is_on_line (take size text)
spelled_on_line kind.Name text size h = name_on_line (take size text) h.0
spelled_on_line (kind.Number n) text size h = number_on_line n.width n.value (take size text) h
spelled_on_line (kind.Mark m) text size h = AllPass-from_list_all is_on_line (take size text) (ap (list_all is_on_line) h.0 ∙ mark_on_line m)
spelled_on_line kind.Quoted text size h = string_on_line (take size text) h
spelled_on_line (kind.At a) text size h = AllPass-from_list_all is_on_line (take size text) (ap (list_all is_on_line) h.0 ∙ annotation_on_line a)
spelled_on_line (kind.Include i) text size h = AllPass-from_list_all is_on_line (take size text) (ap (list_all is_on_line) h.0 ∙ include_on_line i)
