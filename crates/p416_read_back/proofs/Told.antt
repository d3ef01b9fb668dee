-- Tokens that are told apart by their neighbours: where a `>` that another one touches is a shift, and a `<` begins the type of a
-- `lookahead` or doesn't, by what stands before and behind it.
use Rattle.std.proofs.Common.{◌≡◌, ℕ, Bool, true, false, List, [], ◌∷◌, ◌++◌, refl, sym, ap, subst, append_assoc, Option, Some, None}
use Rattle.std.specs.Prelude.{◌&&◌}
use Rattle.std.specs.Str.{bytes_eq}
use Rattle.p416_syntax.specs.declared.mark.Mark16.TheVariants as mark_of
use Rattle.p416_tok.specs.declared.kind.TokenKind16.{TokenKind16}
use Rattle.p416_syntax.specs.declared.parts.Type16.{Type16}
use Rattle.p416_syntax.specs.Tokens.{Seen16, mark, joined, opens, lookahead_text, greater, paren_open}
use Rattle.p416_syntax.specs.Written.{written_type}
use Rattle.token_sheet.specs.Words.{Word}
use Rattle.p416_spelling.specs.Words.{word16}
use Rattle.p416_reader.specs.Seen.{is_less_kind, is_greater_kind, is_dot_kind, is_name_kind}

abbrev pub W : Type 0
W = Word TokenKind16

-- tests of a word that may be missing
abbrev pub kind_is : (TokenKind16 → Bool) → Option W → Bool
kind_is test None = false
kind_is test (Some w) = test w.kind

abbrev pub word_is : (List ℕ → Bool) → Option W → Bool
word_is test None = false
word_is test (Some w) = is_name_kind w.kind && test w.octets

-- `.lookahead` stands before
abbrev pub follows : Option W → Option W → Bool
follows second first = word_is (bytes_eq lookahead_text) first && kind_is is_dot_kind second

-- the two words before a token: the second last and the last, where they are there
abbrev pub State : Type 0
State = Option W × Option W

-- these tokens begin with a type and `>(`
abbrev pub BeginsType : List Seen16 → Type 0
BeginsType behind = (of : Type16) × (more : List Seen16) × (behind ≡ written_type of ++ greater ∷ paren_open ∷ more)

-- A token behind these words, in front of these: a shift behind no `>`, and not behind a `<` and one more; a `<` behind
-- no `.lookahead`; and one behind it in front of a type.
abbrev pub Fits : State → Seen16 → List Seen16 → Type 0
Fits p joined behind = (kind_is is_greater_kind p.1 ≡ false) × (kind_is is_less_kind p.0 ≡ false)
Fits p opens behind = (follows p.0 p.1 ≡ true) × BeginsType behind
Fits p (mark mark_of.Less) behind = follows p.0 p.1 ≡ false
Fits p _ behind = Unit {0}

-- these tokens are told apart
abbrev pub Told : State → List Seen16 → Type 0
Told p [] = Unit {0}
Told p (s ∷ tokens) = Fits p s tokens × Told (p.1, Some (word16 s)) tokens

-- the words before what follows these tokens
abbrev pub after : State → List Seen16 → State
after p [] = p
after p (s ∷ tokens) = after (p.1, Some (word16 s)) tokens

pub after_append : (p : State) (xs ys : List Seen16) → after p (xs ++ ys) ≡ after (after p xs) ys
after_append p [] ys = refl
after_append p (x ∷ xs) ys = after_append (p.1, Some (word16 x)) xs ys

-- no `.` and no `<` stands before
abbrev pub IsSafe : State → Type 0
IsSafe p = (kind_is is_dot_kind p.1 ≡ false) × (kind_is is_less_kind p.1 ≡ false)

-- a shift and a `<` may stand here
pub record IsClosed (p : State) : Type 0 where
  pub no_greater : kind_is is_greater_kind p.1 ≡ false
  pub no_less : kind_is is_less_kind p.0 ≡ false
  pub no_lookahead : follows p.0 p.1 ≡ false

-- these tokens are told apart behind any that are safe, and what follows them is safe
pub record Good (xs : List Seen16) : Type 0 where
  pub goes : (p : State) (rest : List Seen16) → IsSafe p → Told (after p xs) rest → Told p (xs ++ rest)
  pub ends : (p : State) → IsSafe p → IsSafe (after p xs)

-- these are told apart behind any tokens, and behind them an operator may stand, where they begin safely
pub record Free (xs : List Seen16) : Type 0 where
  pub goes : (p : State) (rest : List Seen16) → Told (after p xs) rest → Told p (xs ++ rest)
  pub ends : (p : State) → IsSafe (after p xs)
  pub closes : (p : State) → IsSafe p → IsClosed (after p xs)

pub free_good : (xs : List Seen16) → Free xs → Good xs
free_good xs f = record { goes = λ p rest s t. f.goes p rest t; ends = λ p s. f.ends p }

-- a token that isn't told by its neighbours
pub record IsPlain (x : Seen16) : Type 0 where
  pub fits_always : (p : State) (behind : List Seen16) → Fits p x behind
  pub safe : (p : Option W) → IsSafe (p, Some (word16 x))

pub good_nothing : Good []
good_nothing = record { goes = λ p rest s t. t; ends = λ p s. s }

pub good_append : (xs ys : List Seen16) → Good xs → Good ys → Good (xs ++ ys)
good_append xs ys a b = record {
  goes = λ p rest s t. subst (λ (zs : List Seen16). Told p zs) (sym (append_assoc xs ys rest)) (a.goes p (ys ++ rest) s (b.goes (after p xs) rest (a.ends p s) (subst (λ (q : State). Told q rest) (after_append p xs ys) t)));
  ends = λ p s. subst (λ (q : State). IsSafe q) (sym (after_append p xs ys)) (b.ends (after p xs) (a.ends p s));
}

pub good_cons : (x : Seen16) (xs : List Seen16) → IsPlain x → Good xs → Good (x ∷ xs)
good_cons x xs a b = record {
  goes = λ p rest s t. (a.fits_always p (xs ++ rest), b.goes (p.1, Some (word16 x)) rest (a.safe p.1) t);
  ends = λ p s. b.ends (p.1, Some (word16 x)) (a.safe p.1);
}

pub good_one : (x : Seen16) → IsPlain x → Good (x ∷ [])
good_one x a = good_cons x [] a good_nothing

-- tokens with a plain one in front, and behind a closing one: an operator may stand behind them
pub free_closed : (x y : Seen16) (xs : List Seen16) → IsPlain x → IsPlain y → kind_is is_greater_kind (Some (word16 y)) ≡ false → word_is (bytes_eq lookahead_text) (Some (word16 y)) ≡ false → Good xs → Free (x ∷ (xs ++ y ∷ []))
free_closed x y xs a b g l inside =
    let before : State → State = λ p. (p.1, Some (word16 x)) in
    record {
      goes = λ p rest t. (a.fits_always p ((xs ++ y ∷ []) ++ rest), (good_append xs (y ∷ []) inside (good_one y b)).goes (before p) rest (a.safe p.1) t);
      ends = λ p. subst (λ (q : State). IsSafe q) (sym (after_append (before p) xs (y ∷ []))) (b.safe (after (before p) xs).1);
      closes = λ p s. subst (λ (q : State). IsClosed q) (sym (after_append (before p) xs (y ∷ [])))
          (record {
            no_greater = g;
            no_less = (inside.ends (before p) (a.safe p.1)).1;
            no_lookahead = ap (λ t. t && kind_is is_dot_kind (after (before p) xs).1) l;
          });
    }

-- these go on behind what is told apart behind any tokens
pub record Chunk (xs : List Seen16) : Type 0 where
  pub good : Good xs
  pub closes : (p : State) → IsSafe p → IsClosed (after p xs)

pub free_chunk : (xs : List Seen16) → Free xs → Chunk xs
free_chunk xs f = record { good = free_good xs f; closes = f.closes }

-- safe behind any tokens, where some stand
pub free_append : (xs ys : List Seen16) → Free xs → Chunk ys → Free (xs ++ ys)
free_append xs ys a b = record {
  goes = λ p rest t. subst (λ (zs : List Seen16). Told p zs) (sym (append_assoc xs ys rest)) (a.goes p (ys ++ rest) (b.good.goes (after p xs) rest (a.ends p) (subst (λ (q : State). Told q rest) (after_append p xs ys) t)));
  ends = λ p. subst (λ (q : State). IsSafe q) (sym (after_append p xs ys)) (b.good.ends (after p xs) (a.ends p));
  closes = λ p s. subst (λ (q : State). IsClosed q) (sym (after_append p xs ys)) (b.closes (after p xs) (a.ends p));
}

pub free_cons : (x : Seen16) (xs : List Seen16) → IsPlain x → Free xs → Free (x ∷ xs)
free_cons x xs a b = record {
  goes = λ p rest t. (a.fits_always p (xs ++ rest), b.goes (p.1, Some (word16 x)) rest t);
  ends = λ p. b.ends (p.1, Some (word16 x));
  closes = λ p s. b.closes (p.1, Some (word16 x)) (a.safe p.1);
}
