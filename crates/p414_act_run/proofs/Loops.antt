-- Turns of the loops that gather calculations. All rows fit: where those that are left fit, all do.
use Rattle.std.proofs.Common.{◌≡◌, ℕ, ◌+◌, ◌<◌, ◌≤◌, List, [], ◌∷◌, ◌++◌, length, get_or, drop, map, option_to_list, All, Option, Some, None, refl, sym, ap, ◌∙◌, subst, append_assoc, drop-cons, add-one}
use Rattle.std.specs.Prelude.{filter_map}
use Rattle.std.specs.List.{cons_option}
use Rattle.std.proofs.lemmas.List.{drop_all}
use Rattle.std.proofs.lemmas.List.Elements.{All-nil, All-cons}

pub next_items : {X : Type 0} (xs : List X) (i : ℕ) (d : X) → i < length xs → drop i xs ≡ get_or xs i d ∷ drop (i + 1) xs
next_items xs i d h = rw (add-one, drop-cons xs i d h) refl

pub fit_more : {X : Type 0} (P : X → Type 0) (xs : List X) (i : ℕ) (d : X) → i < length xs → P (get_or xs i d) → (All P (drop i xs) → All P xs) → All P (drop (i + 1) xs) → All P xs
fit_more P xs i d lt here all rest =
    all (subst (All P) (sym (next_items xs i d lt)) (All-cons P (get_or xs i d) (drop (i + 1) xs) here rest))

pub fit_end : {X : Type 0} (P : X → Type 0) (xs : List X) (i : ℕ) → length xs ≤ i → (All P (drop i xs) → All P xs) → All P xs
fit_end P xs i le all = all (subst (All P) (sym (drop_all i xs le)) (All-nil P))

-- what is picked of an item is put last

picked_by : {B : Type 0} (o : Option B) (old rest : List B) → (old ++ option_to_list o) ++ rest ≡ old ++ cons_option o rest
picked_by None old rest = append_assoc old [] rest
picked_by (Some b) old rest = append_assoc old (b ∷ []) rest

pub picked_now : {A B : Type 0} (pick : A → Option B) (items : List A) (i : ℕ) (d : A) (old new whole : List B) → i < length items → new ≡ old ++ option_to_list (pick (get_or items i d)) → old ++ filter_map pick (drop i items) ≡ whole → new ++ filter_map pick (drop (i + 1) items) ≡ whole
picked_now pick items i d old new whole lt is same =
    ap (λ l. l ++ filter_map pick (drop (i + 1) items)) is
    ∙ (picked_by (pick (get_or items i d)) old (filter_map pick (drop (i + 1) items))
    ∙ (sym (ap (λ l. old ++ filter_map pick l) (next_items items i d lt)) ∙ same))

kept_by : {X B : Type 0} (f : X → B) (o : Option X) (rest : List X) → map f (cons_option o rest) ≡ map f (option_to_list o) ++ map f rest
kept_by f None rest = refl
kept_by f (Some x) rest = refl

pub kept_now : {A X B : Type 0} (pick : A → Option X) (f : X → B) (items : List A) (i : ℕ) (d : A) (old new whole : List B) → i < length items → new ≡ old ++ map f (option_to_list (pick (get_or items i d))) → old ++ map f (filter_map pick (drop i items)) ≡ whole → new ++ map f (filter_map pick (drop (i + 1) items)) ≡ whole
kept_now pick f items i d old new whole lt is same =
    ap (λ l. l ++ map f (filter_map pick (drop (i + 1) items))) is
    ∙ (append_assoc old (map f (option_to_list (pick (get_or items i d)))) (map f (filter_map pick (drop (i + 1) items)))
    ∙ (ap (λ l. old ++ l) (sym (kept_by f (pick (get_or items i d)) (filter_map pick (drop (i + 1) items))))
    ∙ (sym (ap (λ l. old ++ map f (filter_map pick l)) (next_items items i d lt)) ∙ same)))
