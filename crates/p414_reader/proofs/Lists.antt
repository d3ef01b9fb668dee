-- Laws of lists, and of what is built of lists, that the words of every group share.
use Rattle.std.proofs.Common.{◌≡◌, ℕ, Bool, true, false, not, ◌&&◌, ◌||◌, List, [], ◌∷◌, ◌++◌, map, Option, Some, None, refl, sym, ap, subst, ◌∙◌, append_assoc, append-nil, bytes_eq}
use Rattle.std.proofs.lemmas.Slice.Eq.{bytes_eq-Decides}
use Rattle.p414_syntax.specs.declared.lexeme.Lexeme.{Lexeme}
use Rattle.p414_syntax.specs.declared.parts.Number.{Number}
use Rattle.p414_syntax.specs.declared.parts.Index.{Index}
use Rattle.p414_syntax.specs.Words.{name}
use Rattle.p414_syntax.specs.Written.{written_option, written_index}
use Rattle.p414_syntax.specs.Conditions.{is_among, all_different, is_bare}
use Rattle.predictive_parser.specs.Values.{newest, older, extended}
use Rattle.p414_reader.proofs.Meaning.{extended_by, with_arguments, with_tokens, StayDifferent}

-- What is shown where a word's tokens are those that its value is written with, is shown of all tokens that are equal to
-- them. What stands for the texts and for `P` is read off the goal: `by_value _ _ (λ value. ..)`.
pub by_value : {V T : Type 0} (written : V → T) (P : T → V → Type 0) → ((v : V) → P (written v) v) → (us : T) (v : V) → us ≡ written v → P us v
by_value written P f us v e = subst (λ ts. P ts v) (sym e) (f v)

-- the same where more is known of the value
pub by_kept : {V T : Type 0} (written : V → T) (E : V → Type 0) (P : T → V → Type 0) → ((v : V) → E v → P (written v) v) → (us : T) (v : V) → ((us ≡ written v) × E v) → P us v
by_kept written E P f us v e = subst (λ ts. P ts v) (sym e.0) (f v e.1)

pub by_kept_two : {V T : Type 0} (written : V → T) (E F : V → Type 0) (P : T → V → Type 0) → ((v : V) → E v → F v → P (written v) v) → (us : T) (v : V) → ((us ≡ written v) × E v × F v) → P us v
by_kept_two written E F P f us v e = subst (λ ts. P ts v) (sym e.0) (f v e.1 e.2)

-- lists that end in one or two known elements, before another list

pub end_joined : {A : Type 0} (xs : List A) (x : A) (rest : List A) → xs ++ x ∷ rest ≡ (xs ++ x ∷ []) ++ rest
end_joined xs x rest = sym (append_assoc xs (x ∷ []) rest)

pub end_joined_two : {A : Type 0} (xs ys : List A) (x : A) (rest : List A) → xs ++ (ys ++ x ∷ rest) ≡ (xs ++ (ys ++ x ∷ [])) ++ rest
end_joined_two xs ys x rest = ap (λ l. xs ++ l) (end_joined ys x rest) ∙ sym (append_assoc xs (ys ++ x ∷ []) rest)

pub ends_joined : {A : Type 0} (xs : List A) (x y : A) (rest : List A) → xs ++ x ∷ y ∷ rest ≡ ((xs ++ x ∷ []) ++ y ∷ []) ++ rest
ends_joined xs x y rest = end_joined xs x (y ∷ rest) ∙ end_joined (xs ++ x ∷ []) y rest

-- what is put behind lists

pub extended_by_list : {A : Type 0} (xs ys : List A) (lists : List (List A)) → extended_by xs (ys ∷ lists) ≡ (ys ++ xs) ∷ lists
extended_by_list [] ys lists = ap (λ l. l ∷ lists) (sym (append-nil ys))
extended_by_list (x ∷ xs) ys lists = extended_by_list xs (ys ++ x ∷ []) lists ∙ ap (λ l. l ∷ lists) (append_assoc ys (x ∷ []) xs)

pub with_arguments_list : (ns ms : List Number) (lists : List (Option (List Number))) → with_arguments ns (Some ms ∷ lists) ≡ Some (ms ++ ns) ∷ lists
with_arguments_list [] ms lists = ap (λ l. Some l ∷ lists) (sym (append-nil ms))
with_arguments_list (n ∷ ns) ms lists = with_arguments_list ns (ms ++ n ∷ []) lists ∙ ap (λ l. Some l ∷ lists) (append_assoc ms (n ∷ []) ns)

pub with_tokens_list : (us vs : List Lexeme) (groups : List (Option (List Lexeme))) → with_tokens us (Some vs ∷ groups) ≡ Some (vs ++ us) ∷ groups
with_tokens_list [] vs groups = ap (λ l. Some l ∷ groups) (sym (append-nil vs))
with_tokens_list (u ∷ us) vs groups = with_tokens_list us (vs ++ u ∷ []) groups ∙ ap (λ l. Some l ∷ groups) (append_assoc vs (u ∷ []) us)

-- the newest list, once more is put behind it
pub newest_extended : {A : Type 0} (more : List A) (lists : List (List A)) → newest [] (extended more lists) ≡ newest [] lists ++ more
newest_extended more [] = refl
newest_extended more (list ∷ lists) = refl

pub older_extended : {A : Type 0} (more : List A) (lists : List (List A)) → older (extended more lists) ≡ older lists
older_extended more [] = refl
older_extended more (list ∷ lists) = refl

-- tests of lists

pub both : (a b : Bool) → a ≡ true → b ≡ true → (a && b) ≡ true
both true b e f = f
both false b e f = e

pub left_true : (a b : Bool) → (a && b) ≡ true → a ≡ true
left_true true b e = refl
left_true false b e = e

pub right_true : (a b : Bool) → (a && b) ≡ true → b ≡ true
right_true true b e = e
right_true false b e = cc

pub not_true : (a : Bool) → not a ≡ true → a ≡ false
not_true true e = sym e
not_true false e = refl

pub not_false : (a : Bool) → a ≡ false → not a ≡ true
not_false true e = sym e
not_false false e = refl

pub neither_left : (a b : Bool) → (a || b) ≡ false → a ≡ false
neither_left true b e = e
neither_left false b e = refl

pub neither_right : (a b : Bool) → (a || b) ≡ false → b ≡ false
neither_right true b e = cc
neither_right false b e = e

pub neither_of : (a b : Bool) → a ≡ false → b ≡ false → (a || b) ≡ false
neither_of true b e f = e
neither_of false b e f = f

-- texts that are equal, and texts that aren't

pub text_is : (xs ys : List ℕ) → bytes_eq xs ys ≡ true → ys ≡ xs
text_is xs ys e = sym ((bytes_eq-Decides xs ys).0 e)

pub text_same : (xs : List ℕ) → bytes_eq xs xs ≡ true
text_same xs = (bytes_eq-Decides xs xs).1 refl

pub text_differs : (xs ys : List ℕ) → bytes_eq xs ys ≡ false → bytes_eq ys xs ≡ false
text_differs xs ys e = go (bytes_eq ys xs) refl
  where
    go : (b : Bool) → bytes_eq ys xs ≡ b → b ≡ false
    go true f = sym (subst (λ zs. bytes_eq zs ys ≡ true) (sym (text_is ys xs f)) (text_same ys)) ∙ e
    go false f = refl

-- an instance that is one word alone is written so
pub bare_spelled : (text word : List ℕ) (index : Option Index) → is_bare word (record { name = text; index = index }) ≡ true → name text ∷ written_option written_index index ≡ name word ∷ []
bare_spelled text word None e = ap (λ (t : List ℕ). name t ∷ []) (sym (text_is text word (left_true (bytes_eq text word) true e)))
bare_spelled text word (Some i) e = false_is (right_true (bytes_eq text word) false e)
  where
    false_is : false ≡ true → name text ∷ written_index i ≡ name word ∷ []
    false_is f = cc

-- a text is among these and one more
pub among_one_more : (text other : List ℕ) (texts : List (List ℕ)) → is_among text texts ≡ false → bytes_eq text other ≡ false → is_among text (texts ++ other ∷ []) ≡ false
among_one_more text other [] e f = neither_of (bytes_eq text other) false f refl
among_one_more text other (t ∷ texts) e f =
    neither_of (bytes_eq text t) (is_among text (texts ++ other ∷ [])) (neither_left (bytes_eq text t) (is_among text texts) e)
    (among_one_more text other texts (neither_right (bytes_eq text t) (is_among text texts) e) f)

-- a text that isn't among others keeps them different
pub different_one_more : (text : List ℕ) (texts : List (List ℕ)) → is_among text texts ≡ false → all_different texts ≡ true → all_different (texts ++ text ∷ []) ≡ true
different_one_more text [] e d = refl
different_one_more text (t ∷ texts) e d =
    both (not (is_among t (texts ++ text ∷ []))) (all_different (texts ++ text ∷ []))
    (not_false (is_among t (texts ++ text ∷ []))
    (among_one_more t text texts (not_true (is_among t texts) (left_true (not (is_among t texts)) (all_different texts) d))
    (text_differs text t (neither_left (bytes_eq text t) (is_among text texts) e))))
    (different_one_more text texts (neither_right (bytes_eq text t) (is_among text texts) e) (right_true (not (is_among t texts)) (all_different texts) d))

pub stay_none : (before : List (List ℕ)) → StayDifferent before []
stay_none before d = ap (λ l. all_different l) (append-nil before) ∙ d

-- Where a text that isn't among these is put behind them, and more behind it: they all stay different.
pub stay_more : (text : List ℕ) (before words : List (List ℕ)) → is_among text before ≡ false → StayDifferent (before ++ text ∷ []) words → StayDifferent before (text ∷ words)
stay_more text before words e f d =
    subst (λ l. all_different l ≡ true) (append_assoc before (text ∷ []) words) (f (different_one_more text before e d))

pub map_one : {A B : Type 0} (f : A → B) (x : A) (xs : List A) → map f (xs ++ x ∷ []) ≡ map f xs ++ f x ∷ []
map_one f x [] = refl
map_one f x (y ∷ ys) = ap (λ l. f y ∷ l) (map_one f x ys)

-- the same of the words of a list, where a value is put behind the newest list of its sort
pub stay_extended : {A : Type 0} (word_of : A → List ℕ) (x : A) (xs : List A) (lists : List (List A)) → is_among (word_of x) (map word_of (newest [] lists)) ≡ false → StayDifferent (map word_of (newest [] (extended (x ∷ []) lists))) (map word_of xs) → StayDifferent (map word_of (newest [] lists)) (word_of x ∷ map word_of xs)
stay_extended word_of x xs [] e f = stay_more (word_of x) [] (map word_of xs) e f
stay_extended word_of x xs (list ∷ lists) e f =
    stay_more (word_of x) (map word_of list) (map word_of xs) e (subst (λ l. StayDifferent l (map word_of xs)) (map_one word_of x list) f)
