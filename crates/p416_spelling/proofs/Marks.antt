-- Marks at the front of a text, and what may stand behind them.
use Rattle.std.proofs.Common.{◌≡◌, ℕ, ◌<◌, ◌≤◌, Bool, true, false, List, [], ◌∷◌, ◌++◌, length, get_or, nat_eq, refl, sym, ap, ◌∙◌, arith, cond, Some}
use Rattle.std.specs.Prelude.{◌&&◌}
use Rattle.std.specs.List.{list_any}
use Rattle.std.proofs.lemmas.Bool.Decides.{nat_tests}
use Rattle.token_division.specs.Pieces.{begins, mark_at}
use Rattle.p416_syntax.specs.declared.mark.Mark16.{Mark16}
use Rattle.p416_syntax.specs.declared.mark.Mark16.TheVariants as mark_of
use Rattle.p416_syntax.specs.Marks.{mark_text16, all_marks16}
use Rattle.p416_tok.specs.declared.kind.TokenKind16.TheVariants as kind
use Rattle.p416_tok.specs.Front.{token, mark, mark_found, front}
use Rattle.p416_spelling.proofs.Runs.{or_left, or_right, and_false}

nat_eq_sym : (a b : ℕ) → nat_eq a b ≡ nat_eq b a
nat_eq_sym a b = grind (arith, nat_tests)

and_true : (x : Bool) → (x && true) ≡ x
and_true true = refl
and_true false = refl

and_assoc : (x y z : Bool) → (x && (y && z)) ≡ ((x && y) && z)
and_assoc true y z = refl
and_assoc false y z = refl

begins_then : (o : List ℕ) (b : ℕ) (m : List ℕ) → length o < length m → begins m (o ++ b ∷ []) ≡ (begins m o && nat_eq (get_or m (length o) 0) b)
begins_then [] b [] l = absurd (omega arith)
begins_then [] b (c ∷ m) l = and_true (nat_eq b c) ∙ nat_eq_sym b c
begins_then (a ∷ o) b [] l = absurd (omega arith)
begins_then (a ∷ o) b (c ∷ m) l = ap (λ t. nat_eq a c && t) (begins_then o b m (omega arith)) ∙ and_assoc (nat_eq a c) (begins m o) (nat_eq (get_or m (length o) 0) b)

pub goes_on_so : (m o : List ℕ) (b : ℕ) → length o < length m → begins m o ≡ true → nat_eq (get_or m (length o) 0) b ≡ begins m (o ++ b ∷ [])
goes_on_so m o b l e = sym (begins_then o b m l ∙ ap (λ t. t && nat_eq (get_or m (length o) 0) b) e)

pub goes_on_not : (m o : List ℕ) (b : ℕ) → length o < length m → begins m o ≡ false → false ≡ begins m (o ++ b ∷ [])
goes_on_not m o b l e = sym (begins_then o b m l ∙ ap (λ t. t && nat_eq (get_or m (length o) 0) b) e)

pub goes_on_short : (m o : List ℕ) (b : ℕ) → length m ≤ length o → false ≡ begins m (o ++ b ∷ [])
goes_on_short [] [] b l = refl
goes_on_short (c ∷ m) [] b l = absurd (omega arith)
goes_on_short [] (a ∷ o) b l = refl
goes_on_short (c ∷ m) (a ∷ o) b l = sym (and_false (nat_eq a c) (begins m (o ++ b ∷ [])) (sym (goes_on_short m o b (omega arith))))

apart : (x y t : Bool) → x ≡ y → (x && true) ≡ false → (y && t) ≡ false
apart true y t s f = absurd (cc)
apart false true t s f = absurd (cc)
apart false false t s f = refl

alike : (x t u v : Bool) → (x && t) ≡ false → (t ≡ false → u ≡ v) → (x && u) ≡ (x && v)
alike true t u v f g = g f
alike false t u v f g = refl

-- a mark that doesn't go on so begins the longer text as it begins the shorter
begins_longer : (m o rest : List ℕ) → begins m (o ++ get_or rest 0 0 ∷ []) ≡ false → begins (o ++ rest) m ≡ begins o m
begins_longer [] o rest e = refl
begins_longer (c ∷ m) [] [] e = refl
begins_longer (c ∷ m) [] (b ∷ rest) e = apart (nat_eq b c) (nat_eq c b) (begins rest m) (nat_eq_sym b c) e
begins_longer (c ∷ m) (a ∷ o) rest e =
    ap (λ t. t && begins (o ++ rest) m) (nat_eq_sym c a)
    ∙ alike (nat_eq a c) (begins m (o ++ get_or rest 0 0 ∷ [])) (begins (o ++ rest) m) (begins o m) e (begins_longer m o rest)
    ∙ ap (λ t. t && begins o m) (nat_eq_sym a c)

-- so the table gives the same
same_mark : (o rest : List ℕ) (ms : List Mark16) → list_any (λ other. begins (mark_text16 other) (o ++ get_or rest 0 0 ∷ [])) ms ≡ false → mark_at mark_text16 ms (o ++ rest) ≡ mark_at mark_text16 ms o
same_mark o rest [] e = refl
same_mark o rest (m ∷ ms) e =
    let goes = begins (mark_text16 m) (o ++ get_or rest 0 0 ∷ []) in
    let others = list_any (λ other. begins (mark_text16 other) (o ++ get_or rest 0 0 ∷ [])) ms in
    (λ i. cond (begins_longer (mark_text16 m) o rest (or_left goes others e) i) (Some m) (same_mark o rest ms (or_right goes others e) i))

-- a text that begins with a mark begins with the longest one
by_mark : (is_first : Bool) (m : Mark16) (rest : List ℕ) → front is_first (mark_text16 m ++ rest) ≡ mark (mark_text16 m ++ rest)
by_mark is_first mark_of.BraceOpen rest = refl
by_mark is_first mark_of.BraceClose rest = refl
by_mark is_first mark_of.ParenOpen rest = refl
by_mark is_first mark_of.ParenClose rest = refl
by_mark is_first mark_of.BracketOpen rest = refl
by_mark is_first mark_of.BracketClose rest = refl
by_mark is_first mark_of.Semicolon rest = refl
by_mark is_first mark_of.Colon rest = refl
by_mark is_first mark_of.Comma rest = refl
by_mark is_first mark_of.Dot rest = refl
by_mark is_first mark_of.DotDot rest = refl
by_mark is_first mark_of.Assign rest = refl
by_mark is_first mark_of.Less rest = refl
by_mark is_first mark_of.Greater rest = refl
by_mark is_first mark_of.LessEqual rest = refl
by_mark is_first mark_of.GreaterEqual rest = refl
by_mark is_first mark_of.Equal rest = refl
by_mark is_first mark_of.NotEqual rest = refl
by_mark is_first mark_of.ShiftLeft rest = refl
by_mark is_first mark_of.Plus rest = refl
by_mark is_first mark_of.PlusPlus rest = refl
by_mark is_first mark_of.Minus rest = refl
by_mark is_first mark_of.SaturatingPlus rest = refl
by_mark is_first mark_of.SaturatingMinus rest = refl
by_mark is_first mark_of.Star rest = refl
by_mark is_first mark_of.Ampersand rest = refl
by_mark is_first mark_of.AndAnd rest = refl
by_mark is_first mark_of.Mask rest = refl
by_mark is_first mark_of.Bar rest = refl
by_mark is_first mark_of.OrOr rest = refl
by_mark is_first mark_of.Caret rest = refl
by_mark is_first mark_of.Tilde rest = refl
by_mark is_first mark_of.Bang rest = refl
by_mark is_first mark_of.Question rest = refl

-- each mark is the longest that its own text begins with
itself : (m : Mark16) → mark_at mark_text16 all_marks16 (mark_text16 m) ≡ Some m
itself mark_of.BraceOpen = refl
itself mark_of.BraceClose = refl
itself mark_of.ParenOpen = refl
itself mark_of.ParenClose = refl
itself mark_of.BracketOpen = refl
itself mark_of.BracketClose = refl
itself mark_of.Semicolon = refl
itself mark_of.Colon = refl
itself mark_of.Comma = refl
itself mark_of.Dot = refl
itself mark_of.DotDot = refl
itself mark_of.Assign = refl
itself mark_of.Less = refl
itself mark_of.Greater = refl
itself mark_of.LessEqual = refl
itself mark_of.GreaterEqual = refl
itself mark_of.Equal = refl
itself mark_of.NotEqual = refl
itself mark_of.ShiftLeft = refl
itself mark_of.Plus = refl
itself mark_of.PlusPlus = refl
itself mark_of.Minus = refl
itself mark_of.SaturatingPlus = refl
itself mark_of.SaturatingMinus = refl
itself mark_of.Star = refl
itself mark_of.Ampersand = refl
itself mark_of.AndAnd = refl
itself mark_of.Mask = refl
itself mark_of.Bar = refl
itself mark_of.OrOr = refl
itself mark_of.Caret = refl
itself mark_of.Tilde = refl
itself mark_of.Bang = refl
itself mark_of.Question = refl

pub mark_again : (is_first : Bool) (m : Mark16) (rest : List ℕ) → list_any (λ other. begins (mark_text16 other) (mark_text16 m ++ get_or rest 0 0 ∷ [])) all_marks16 ≡ false → front is_first (mark_text16 m ++ rest) ≡ token (kind.Mark m) (length (mark_text16 m))
mark_again is_first m rest e = by_mark is_first m rest ∙ ap mark_found (same_mark (mark_text16 m) rest all_marks16 e ∙ itself m)

-- no mark has a line feed
pub feed_parts : (m : Mark16) → list_any (λ other. begins (mark_text16 other) (mark_text16 m ++ 10 ∷ [])) all_marks16 ≡ false
feed_parts mark_of.BraceOpen = refl
feed_parts mark_of.BraceClose = refl
feed_parts mark_of.ParenOpen = refl
feed_parts mark_of.ParenClose = refl
feed_parts mark_of.BracketOpen = refl
feed_parts mark_of.BracketClose = refl
feed_parts mark_of.Semicolon = refl
feed_parts mark_of.Colon = refl
feed_parts mark_of.Comma = refl
feed_parts mark_of.Dot = refl
feed_parts mark_of.DotDot = refl
feed_parts mark_of.Assign = refl
feed_parts mark_of.Less = refl
feed_parts mark_of.Greater = refl
feed_parts mark_of.LessEqual = refl
feed_parts mark_of.GreaterEqual = refl
feed_parts mark_of.Equal = refl
feed_parts mark_of.NotEqual = refl
feed_parts mark_of.ShiftLeft = refl
feed_parts mark_of.Plus = refl
feed_parts mark_of.PlusPlus = refl
feed_parts mark_of.Minus = refl
feed_parts mark_of.SaturatingPlus = refl
feed_parts mark_of.SaturatingMinus = refl
feed_parts mark_of.Star = refl
feed_parts mark_of.Ampersand = refl
feed_parts mark_of.AndAnd = refl
feed_parts mark_of.Mask = refl
feed_parts mark_of.Bar = refl
feed_parts mark_of.OrOr = refl
feed_parts mark_of.Caret = refl
feed_parts mark_of.Tilde = refl
feed_parts mark_of.Bang = refl
feed_parts mark_of.Question = refl

pub mark_some : (m : Mark16) → 0 < length (mark_text16 m)
mark_some mark_of.BraceOpen = omega arith
mark_some mark_of.BraceClose = omega arith
mark_some mark_of.ParenOpen = omega arith
mark_some mark_of.ParenClose = omega arith
mark_some mark_of.BracketOpen = omega arith
mark_some mark_of.BracketClose = omega arith
mark_some mark_of.Semicolon = omega arith
mark_some mark_of.Colon = omega arith
mark_some mark_of.Comma = omega arith
mark_some mark_of.Dot = omega arith
mark_some mark_of.DotDot = omega arith
mark_some mark_of.Assign = omega arith
mark_some mark_of.Less = omega arith
mark_some mark_of.Greater = omega arith
mark_some mark_of.LessEqual = omega arith
mark_some mark_of.GreaterEqual = omega arith
mark_some mark_of.Equal = omega arith
mark_some mark_of.NotEqual = omega arith
mark_some mark_of.ShiftLeft = omega arith
mark_some mark_of.Plus = omega arith
mark_some mark_of.PlusPlus = omega arith
mark_some mark_of.Minus = omega arith
mark_some mark_of.SaturatingPlus = omega arith
mark_some mark_of.SaturatingMinus = omega arith
mark_some mark_of.Star = omega arith
mark_some mark_of.Ampersand = omega arith
mark_some mark_of.AndAnd = omega arith
mark_some mark_of.Mask = omega arith
mark_some mark_of.Bar = omega arith
mark_some mark_of.OrOr = omega arith
mark_some mark_of.Caret = omega arith
mark_some mark_of.Tilde = omega arith
mark_some mark_of.Bang = omega arith
mark_some mark_of.Question = omega arith
