-- What is taken between tokens is trivia, and whether nothing but blanks stands before a piece on its line.
use Rattle.std.proofs.Common.{◌≡◌, ◌⊎◌, inl, inr, nat_lt, ℕ, ◌+◌, ◌<◌, ◌≤◌, Bool, true, false, List, [], ◌∷◌, ◌++◌, length, get_or, take, drop, refl, sym, ap, ◌∙◌, subst, arith, cond, Option, Some, None, Result, Ok, Err}
use Rattle.std.specs.Prelude.{◌||◌}
use Rattle.std.specs.List.{AllPass, prefix_len}
use Rattle.std.proofs.lemmas.List.{get_or-take, length-take-le}
use Rattle.p4x_fault.specs.declared.Rule.{Rule}
use Rattle.p4x_fault.specs.declared.Rule.TheVariants.{L}
use Rattle.token_division.specs.declared.division.What.{What}
use Rattle.token_division.specs.declared.division.What.TheVariants as what
use Rattle.token_division.specs.declared.literals.Base.TheVariants.{Decimal}
use Rattle.token_division.specs.Octets.{is_blank, is_decimal, is_word, is_line_feed, is_on_line}
use Rattle.token_division.specs.Pieces.{mark_at, comment_size}
use Rattle.token_division.specs.Literals.{value_of, literal_value, literal_size, largest}
use Rattle.token_division.specs.Division.{first_after}
use Rattle.token_division.proofs.LineStarts.{opens, opens_blank, opens_not, opens_not_behind_comment}
use Rattle.token_division.proofs.Comments.{IsComment, comment_taken}
use Rattle.p416_syntax.specs.declared.mark.Mark16.{Mark16}
use Rattle.p416_syntax.specs.declared.lexeme.Annotation16.{Annotation16}
use Rattle.p416_syntax.specs.declared.lexeme.Include16.{Include16}
use Rattle.p416_syntax.specs.Marks.{mark_text16, all_marks16}
use Rattle.p416_tok.specs.declared.kind.TokenKind16.{TokenKind16}
use Rattle.p416_tok.specs.declared.kind.TokenKind16.TheVariants as kind
use Rattle.p416_tok.specs.declared.front.Head.{Head}
use Rattle.p416_tok.specs.declared.front.Head.TheVariants as head
use Rattle.p416_tok.specs.Front.{Found, token, skipped, mark_found, number_kind, plain_number, wide_number, is_joined, bare_number, number, is_closed, quoted, annotation_of, annotation_found, first_line, include_of, include_found, include_line, head_of, front_by, front}
use Rattle.p416_tok.specs.Trivia.{IsTrivia}
use Rattle.p416_tok.proofs.Spelling.{spelled}
use Rattle.p416_tok.proofs.Heads.{HeadIs, head_is, no_blank_by, spelled_on_line}

abbrev found : What TokenKind16 → ℕ → Found
found w size = Ok (record { what = w; size = size })

-- what is known behind a piece
abbrev IsTriviaIf : What TokenKind16 → List ℕ → List ℕ → List ℕ → Type 0
IsTriviaIf what.Blank before piece behind = IsTrivia before piece behind
IsTriviaIf what.Skipped before piece behind = IsTrivia before piece behind
IsTriviaIf (what.Token k) before piece behind = Unit {0}

pub record IsKept (before left : List ℕ) (is_first : Bool) (w : What TokenKind16) (size : ℕ) : Type 0 where
  pub trivia : IsTriviaIf w before (take size left) (drop size left)
  pub next : first_after w is_first (get_or left 0 0) ≡ opens (before ++ take size left)

-- pieces that are tokens
abbrev IsTokenWhat : What TokenKind16 → Type 0
IsTokenWhat what.Blank = ⊥
IsTokenWhat what.Skipped = ⊥
IsTokenWhat (what.Token k) = Unit {0}

abbrev IsTokenFound : Found → Type 0
IsTokenFound (Ok piece) = IsTokenWhat piece.what
IsTokenFound (Err rule) = Unit {0}

abbrev IsBlankWhat : What TokenKind16 → Type 0
IsBlankWhat what.Blank = Unit {0}
IsBlankWhat what.Skipped = ⊥
IsBlankWhat (what.Token k) = ⊥

abbrev IsBlankFound : Found → Type 0
IsBlankFound (Ok piece) = IsBlankWhat piece.what
IsBlankFound (Err rule) = Unit {0}

abbrev size_found : Found → ℕ
size_found (Ok piece) = piece.size
size_found (Err rule) = 0

either_token : (t : Bool) (a b : Found) → IsTokenFound a → IsTokenFound b → IsTokenFound (cond t a b)
either_token true a b h k = h
either_token false a b h k = k

plain_is_token : (text : List ℕ) → IsTokenFound (plain_number text)
plain_is_token text = either_token (nat_lt largest (literal_value text)) _ _ tt tt

bare_is_token : (size : ℕ) (text : List ℕ) → IsTokenFound (bare_number size text)
bare_is_token size text = either_token (is_joined 115 size text) (Err (L 1)) (plain_number text) tt (plain_is_token text)

number_is_token : (text : List ℕ) → IsTokenFound (number text)
number_is_token text =
    let m = prefix_len is_decimal text in
    let width = value_of Decimal (take m text) in
    let rest = drop (m + 1) text in
    either_token (is_joined 119 m text) (wide_number width (m + 1) rest) (bare_number m text)
    (either_token (nat_lt width 1 || (nat_lt 128 width || nat_lt largest (literal_value rest))) _ _ tt tt)
    (bare_is_token m text)

mark_is_token : (o : Option Mark16) → IsTokenFound (mark_found o)
mark_is_token None = tt
mark_is_token (Some m) = tt

annotation_is_token : (o : Option Annotation16) → IsTokenFound (annotation_found o)
annotation_is_token None = tt
annotation_is_token (Some a) = tt

include_is_token : (o : Option Include16) → IsTokenFound (include_found o)
include_is_token None = tt
include_is_token (Some i) = tt

line_is_token : (t : Bool) (text : List ℕ) → IsTokenFound (cond t (include_line text) (Err (L 1)))
line_is_token t text = either_token t (include_line text) (Err (L 1)) (include_is_token (include_of (first_line text))) tt

string_is_token : (text : List ℕ) → IsTokenFound (quoted text)
string_is_token text =
    let inside = drop 1 text in
    let m = prefix_len is_word inside in
    either_token (is_closed m inside) (token kind.Quoted (m + 2)) (Err (L 1)) tt tt

-- behind octets of one line that don't begin with a blank
closes : (before left : List ℕ) (size : ℕ) → 0 < size → size ≤ length left → is_blank (get_or left 0 0) ≡ false → AllPass is_on_line (take size left) → false ≡ opens (before ++ take size left)
closes before left size s l b h = sym (opens_not before (take size left) (omega (arith, length-take-le size left l)) (ap is_blank (get_or-take size left 0 0 s) ∙ b) h)

-- a token
token_kept : (before left : List ℕ) (is_first : Bool) (k : TokenKind16) (size : ℕ) → front is_first left ≡ found (what.Token k) size → 0 < size → size ≤ length left → IsKept before left is_first (what.Token k) size
token_kept before left is_first k size e s l = record {
  trivia = tt;
  next = closes before left size s l (by (head_of (get_or left 0 0)) (head_is (get_or left 0 0)) e) (spelled_on_line k left size (spelled is_first left k size e));
}
  where
    by : (h : Head) → HeadIs (get_or left 0 0) h → front_by h is_first left ≡ found (what.Token k) size → is_blank (get_or left 0 0) ≡ false
    by h i f = no_blank_by (get_or left 0 0) h i (λ q. absurd (let g : front_by head.Blank is_first left ≡ found (what.Token k) size = ap (λ j. front_by j is_first left) (sym q) ∙ f in subst IsBlankFound g tt))

-- a blank
blank_kept : (before left : List ℕ) (is_first : Bool) (size : ℕ) → is_first ≡ opens before → HeadIs (get_or left 0 0) head.Blank → 1 ≡ size → size ≤ length left → IsKept before left is_first what.Blank size
blank_kept before [] is_first size o b e l = absurd (omega arith)
blank_kept before (octet ∷ left) is_first size o b e l = subst (IsKept before (octet ∷ left) is_first what.Blank) e (record {
  trivia = inl (octet, refl, b);
  next = ap (λ t. is_line_feed octet || t) o ∙ sym (opens_blank before octet b);
})

-- a comment
comment_kept : (before left : List ℕ) (is_first : Bool) (size : ℕ) → get_or left 0 0 ≡ 47 → 0 < size → size ≤ length left → IsComment left size → IsKept before left is_first what.Skipped size
comment_kept before left is_first size h s l (inl c) = record { trivia = inr (inr c); next = closes before left size s l (ap is_blank h) c.0.1 }
comment_kept before left is_first size h s l (inr c) = record {
  trivia = inr (inl c);
  next = sym (ap (λ xs. opens (before ++ xs)) c.1 ∙ opens_not_behind_comment before c.0);
}

-- a piece that is skipped
skipped_size : (r : Result ℕ Rule) (size : ℕ) → skipped r ≡ found what.Skipped size → r ≡ Ok size
skipped_size (Ok n) size e = let q : n ≡ size = ap size_found e in ap Ok q
skipped_size (Err rule) size e = absurd (cc)

never_blank : (r : Result ℕ Rule) (size : ℕ) → skipped r ≡ found what.Blank size → ⊥
never_blank (Ok n) size e = subst IsBlankFound (sym e) tt
never_blank (Err rule) size e = cc

-- what is known behind any piece
pub kept_by : (before left : List ℕ) (is_first : Bool) (w : What TokenKind16) (size : ℕ) → is_first ≡ opens before → front is_first left ≡ found w size → 0 < size → size ≤ length left → IsKept before left is_first w size
kept_by before left is_first (what.Token k) size o e s l = token_kept before left is_first k size e s l
kept_by before left is_first what.Blank size o e s l = by (head_of (get_or left 0 0)) (head_is (get_or left 0 0)) e
  where
    by : (h : Head) → HeadIs (get_or left 0 0) h → front_by h is_first left ≡ found what.Blank size → IsKept before left is_first what.Blank size
    by head.Blank h e = blank_kept before left is_first size o h (ap size_found e) l
    by head.Letter h e = absurd (subst IsTokenFound e tt)
    by head.Digit h e = absurd (subst IsTokenFound e (number_is_token left))
    by head.Slash h e = absurd (never_blank (comment_size left) size e)
    by head.Quote h e = absurd (subst IsTokenFound e (string_is_token left))
    by head.AtSign h e = absurd (subst IsTokenFound e (annotation_is_token (annotation_of left)))
    by head.NumberSign h e = absurd (subst IsTokenFound e (line_is_token is_first left))
    by head.Other h e = absurd (subst IsTokenFound e (mark_is_token (mark_at mark_text16 all_marks16 left)))
kept_by before left is_first what.Skipped size o e s l = by (head_of (get_or left 0 0)) (head_is (get_or left 0 0)) e
  where
    by : (h : Head) → HeadIs (get_or left 0 0) h → front_by h is_first left ≡ found what.Skipped size → IsKept before left is_first what.Skipped size
    by head.Blank h e = absurd (subst IsBlankFound e tt)
    by head.Letter h e = absurd (subst IsTokenFound e tt)
    by head.Digit h e = absurd (subst IsTokenFound e (number_is_token left))
    by head.Slash h e = comment_kept before left is_first size h s l (comment_taken left size (skipped_size (comment_size left) size e))
    by head.Quote h e = absurd (subst IsTokenFound e (string_is_token left))
    by head.AtSign h e = absurd (subst IsTokenFound e (annotation_is_token (annotation_of left)))
    by head.NumberSign h e = absurd (subst IsTokenFound e (line_is_token is_first left))
    by head.Other h e = absurd (subst IsTokenFound e (mark_is_token (mark_at mark_text16 all_marks16 left)))
