-- Turns of the loops that gather rows.
use Rattle.std.proofs.Common.{◌≡◌, ℕ, ◌+◌, ◌<◌, List, ◌∷◌, ◌++◌, length, get_or, drop, map, option_to_list, Option, Some, None, refl, sym, ap, ◌∙◌, append_assoc, drop-cons, add-one}
use Rattle.std.specs.Prelude.{filter_map}
use Rattle.std.specs.List.{cons_option}

next_items : {X : Type 0} (xs : List X) (i : ℕ) (d : X) → i < length xs → drop i xs ≡ get_or xs i d ∷ drop (i + 1) xs
next_items xs i d h = rw (add-one, drop-cons xs i d h) refl

kept_by : {X B : Type 0} (f : X → B) (o : Option X) (rest : List X) → map f (cons_option o rest) ≡ map f (option_to_list o) ++ map f rest
kept_by f None rest = refl
kept_by f (Some x) rest = refl

pub kept_now : {A X B : Type 0} (pick : A → Option X) (f : X → B) (items : List A) (i : ℕ) (d : A) (old new whole : List B) → i < length items → new ≡ old ++ map f (option_to_list (pick (get_or items i d))) → old ++ map f (filter_map pick (drop i items)) ≡ whole → new ++ map f (filter_map pick (drop (i + 1) items)) ≡ whole
kept_now pick f items i d old new whole lt is same =
    ap (λ l. l ++ map f (filter_map pick (drop (i + 1) items))) is
    ∙ (append_assoc old (map f (option_to_list (pick (get_or items i d)))) (map f (filter_map pick (drop (i + 1) items)))
    ∙ (ap (λ l. old ++ l) (sym (kept_by f (pick (get_or items i d)) (filter_map pick (drop (i + 1) items))))
    ∙ (sym (ap (λ l. old ++ map f (filter_map pick l)) (next_items items i d lt)) ∙ same)))
