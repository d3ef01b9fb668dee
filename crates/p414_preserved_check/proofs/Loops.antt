-- Turns of the loops.
use Rattle.std.proofs.Common.{◌≡◌, ℕ, zero, suc, ◌+◌, ◌<◌, ◌≤◌, min, ◌⊎◌, inl, inr, ⊎_elim, Bool, true, false, cond, ◌||◌, ◌&&◌, List, [], ◌∷◌, ◌++◌, length, get_or, drop, map, option_to_list, Option, Some, None, refl, sym, ap, ◌∙◌, append_assoc, append-nil, drop-cons, add-one, arith}
use Rattle.std.specs.List.{list_any, cons_option}
use Rattle.std.proofs.lemmas.Bool.{cases_lt, or_left}
use Rattle.std.proofs.lemmas.List.Folds.{list_any-append}
use Rattle.p414_syntax.specs.declared.calculations.FieldList.{FieldList}
use Rattle.p414_syntax.specs.declared.syntax.Decl.{Decl}
use Rattle.p414_syntax.specs.declared.syntax.Sort.TheVariants as sort
use Rattle.p414_calls.specs.declared.argument.Argument.{Argument}
use Rattle.p414_calls.specs.Shown.{shown_argument}
use Rattle.p414_syntax.specs.declared.place.ArgumentPlace.{ArgumentPlace}
use Rattle.p414_syntax.specs.Names.{Name, is_in, declared_in}
use Rattle.p414_syntax.specs.Expansion.{lists, list_in}
use Rattle.p414_syntax.specs.Payloads.{input_in, inputs}
use Rattle.p414_preserved_check.specs.declared.named.Wanted.{Wanted}
use Rattle.p414_preserved_check.specs.internal.Asking.{initial_set}
use Rattle.p414_preserved_check.specs.internal.Early.{early_from}
use Rattle.p414_preserved_check.specs.internal.Named.{named_at, named_among}

-- the items from a place on: the one there, and those behind it
pub next_items : {X : Type 0} (xs : List X) (i : ℕ) (d : X) → i < length xs → drop i xs ≡ get_or xs i d ∷ drop (i + 1) xs
next_items xs i d h = rw (add-one, drop-cons xs i d h) refl

-- a test of one item after another

pub any_next : {X : Type 0} (p : X → Bool) (xs : List X) (i : ℕ) (d : X) → i < length xs → list_any p (drop i xs) ≡ (p (get_or xs i d) || list_any p (drop (i + 1) xs))
any_next p xs i d h = ap (list_any p) (next_items xs i d h)

pub any_mapped : {X Y : Type 0} (f : X → Y) (p : Y → Bool) (xs : List X) (i : ℕ) (d : X) → i < length xs → list_any p (map f (drop i xs)) ≡ (p (f (get_or xs i d)) || list_any p (map f (drop (i + 1) xs)))
any_mapped f p xs i d h = ap (λ l. list_any p (map f l)) (next_items xs i d h)

pub found_one : {X Y : Type 0} (f : X → Y) (p : Y → Bool) (xs : List X) (i : ℕ) (d : X) (answer : Bool) → i < length xs → list_any p (map f (drop i xs)) ≡ list_any p (map f xs) → answer ≡ p (f (get_or xs i d)) → answer ≡ true → true ≡ list_any p (map f xs)
found_one f p xs i d answer h same is so =
    sym (sym same ∙ (any_mapped f p xs i d h ∙ or_left (p (f (get_or xs i d))) (list_any p (map f (drop (i + 1) xs))) (sym is ∙ so)))

pub not_this : {X Y : Type 0} (f : X → Y) (p : Y → Bool) (xs : List X) (i : ℕ) (d : X) (answer : Bool) → i < length xs → list_any p (map f (drop i xs)) ≡ list_any p (map f xs) → answer ≡ p (f (get_or xs i d)) → answer ≡ false → list_any p (map f (drop (i + 1) xs)) ≡ list_any p (map f xs)
not_this f p xs i d answer h same is so =
    sym (ap (λ (b : Bool). b || list_any p (map f (drop (i + 1) xs))) (sym is ∙ so)) ∙ (sym (any_mapped f p xs i d h) ∙ same)

any_by : (p : FieldList → Bool) (o : Option FieldList) (rest : List FieldList) → list_any p (cons_option o rest) ≡ (list_any p (option_to_list o) || list_any p rest)
any_by p None rest = refl
any_by p (Some l) rest = list_any-append p (l ∷ []) rest

pub any_list : (p : FieldList → Bool) (decls : List Decl) (i : ℕ) (d : Decl) → i < length decls → list_any p (lists (drop i decls)) ≡ (list_any p (option_to_list (list_in (get_or decls i d))) || list_any p (lists (drop (i + 1) decls)))
any_list p decls i d h =
    ap (λ xs. list_any p (lists xs)) (next_items decls i d h)
    ∙ any_by p (list_in (get_or decls i d)) (lists (drop (i + 1) decls))

pub any_input : (p : List Name → Bool) (decls : List Decl) (i : ℕ) (d : Decl) → i < length decls → list_any p (inputs (drop i decls)) ≡ (list_any p (input_in (get_or decls i d)) || list_any p (inputs (drop (i + 1) decls)))
any_input p decls i d h =
    ap (λ xs. list_any p (inputs xs)) (next_items decls i d h)
    ∙ list_any-append p (input_in (get_or decls i d)) (inputs (drop (i + 1) decls))

-- parts in order, some of which pay and some fill
pub early_next : {X : Type 0} (pays fills : X → Bool) (paid : Bool) (xs : List X) (i : ℕ) (d : X) → i < length xs → early_from pays fills paid (drop i xs) ≡ ((paid && fills (get_or xs i d)) || early_from pays fills (paid || pays (get_or xs i d)) (drop (i + 1) xs))
early_next pays fills paid xs i d h = ap (early_from pays fills paid) (next_items xs i d h)

-- a set of a declaration that is an instance

set_by : (b : Bool) (x : Decl) (rest : List Decl) → map initial_set (cond b (x ∷ rest) rest) ≡ map initial_set (cond b (x ∷ []) []) ++ map initial_set rest
set_by true x rest = refl
set_by false x rest = refl

pub set_now : (decls : List Decl) (i : ℕ) (d : Decl) (old new whole : List (List Name)) → i < length decls → new ≡ old ++ map initial_set (declared_in sort.Instance (get_or decls i d ∷ [])) → old ++ map initial_set (declared_in sort.Instance (drop i decls)) ≡ whole → new ++ map initial_set (declared_in sort.Instance (drop (i + 1) decls)) ≡ whole
set_now decls i d old new whole h is same =
    ap (λ l. l ++ map initial_set (declared_in sort.Instance (drop (i + 1) decls))) is
    ∙ (append_assoc old (map initial_set (declared_in sort.Instance (get_or decls i d ∷ []))) (map initial_set (declared_in sort.Instance (drop (i + 1) decls)))
    ∙ (ap (λ l. old ++ l) (sym (set_by (is_in sort.Instance (get_or decls i d)) (get_or decls i d) (declared_in sort.Instance (drop (i + 1) decls))))
    ∙ (sym (ap (λ xs. old ++ map initial_set (declared_in sort.Instance xs)) (next_items decls i d h)) ∙ same)))

-- arguments with their places

pub named_turn : (wanted : Wanted) (places : List ArgumentPlace) (arguments : List Argument) (k : ℕ) (p : ArgumentPlace) (a : Argument) (old new whole : List Name) → k < length places → k < length arguments → new ≡ old ++ named_at wanted (get_or places k p) (shown_argument (get_or arguments k a)) → old ++ named_among wanted (drop k places) (map shown_argument (drop k arguments)) ≡ whole → new ++ named_among wanted (drop (k + 1) places) (map shown_argument (drop (k + 1) arguments)) ≡ whole
named_turn wanted places arguments k p a old new whole h g is same =
    let both : named_among wanted (drop k places) (map shown_argument (drop k arguments)) ≡ named_at wanted (get_or places k p) (shown_argument (get_or arguments k a)) ++ named_among wanted (drop (k + 1) places) (map shown_argument (drop (k + 1) arguments)) =
    ap (λ ps. named_among wanted ps (map shown_argument (drop k arguments))) (next_items places k p h)
    ∙ ap (λ given. named_among wanted (get_or places k p ∷ drop (k + 1) places) (map shown_argument given)) (next_items arguments k a g) in
    ap (λ l. l ++ named_among wanted (drop (k + 1) places) (map shown_argument (drop (k + 1) arguments))) is
    ∙ (append_assoc old (named_at wanted (get_or places k p) (shown_argument (get_or arguments k a))) (named_among wanted (drop (k + 1) places) (map shown_argument (drop (k + 1) arguments)))
    ∙ (ap (λ l. old ++ l) (sym both) ∙ same))

none_left : {X : Type 0} (xs : List X) (k : ℕ) → length xs ≤ k → drop k xs ≡ []
none_left [] zero h = refl
none_left [] (suc k) h = refl
none_left (x ∷ xs) zero h = absurd (omega arith)
none_left (x ∷ xs) (suc k) h = none_left xs k (omega arith)

no_arguments : (wanted : Wanted) (places : List ArgumentPlace) → named_among wanted places [] ≡ []
no_arguments wanted [] = refl
no_arguments wanted (p ∷ places) = refl

pub named_end : (wanted : Wanted) (places : List ArgumentPlace) (arguments : List Argument) (k : ℕ) → min (length places) (length arguments) ≤ k → named_among wanted (drop k places) (map shown_argument (drop k arguments)) ≡ []
named_end wanted places arguments k h =
    ⊎_elim
    (λ (g : length places ≤ k). ap (λ ps. named_among wanted ps (map shown_argument (drop k arguments))) (none_left places k g))
    (λ (g : length arguments ≤ k). ap (λ given. named_among wanted (drop k places) (map shown_argument given)) (none_left arguments k g) ∙ no_arguments wanted (drop k places))
    (one_ends (length places) (length arguments) k h) where
      one_ends : (a b k : ℕ) → min a b ≤ k → (a ≤ k) ⊎ (b ≤ k)
      one_ends a b k h = ⊎_elim (λ (g : a < suc k). inl (omega arith)) (λ (g : suc k ≤ a). inr (omega arith)) (cases_lt a (suc k))

pub named_whole : (wanted : Wanted) (places : List ArgumentPlace) (arguments : List Argument) (k : ℕ) (new whole : List Name) → min (length places) (length arguments) ≤ k → new ++ named_among wanted (drop k places) (map shown_argument (drop k arguments)) ≡ whole → new ≡ whole
named_whole wanted places arguments k new whole h same =
    sym (append-nil new) ∙ (sym (ap (λ l. new ++ l) (named_end wanted places arguments k h)) ∙ same)
