-- Turns of the loops that make rows.
use Rattle.std.proofs.Common.{◌≡◌, ℕ, ◌+◌, ◌<◌, List, ◌∷◌, ◌++◌, length, get_or, drop, map, refl, sym, ap, ◌∙◌, append_assoc, drop-cons, add-one}
use Rattle.std.specs.Prelude.{flat_map}
use Rattle.std.proofs.lemmas.List.{map-append}

next_items : {X : Type 0} (xs : List X) (i : ℕ) (d : X) → i < length xs → drop i xs ≡ get_or xs i d ∷ drop (i + 1) xs
next_items xs i d h = rw (add-one, drop-cons xs i d h) refl

-- what is made of a declaration is put last
pub fields_now : {A X B : Type 0} (parts : A → List X) (f : X → B) (items : List A) (i : ℕ) (d : A) (old new whole : List B) → i < length items → new ≡ old ++ map f (parts (get_or items i d)) → old ++ map f (flat_map parts (drop i items)) ≡ whole → new ++ map f (flat_map parts (drop (i + 1) items)) ≡ whole
fields_now parts f items i d old new whole lt is same =
    ap (λ l. l ++ map f (flat_map parts (drop (i + 1) items))) is
    ∙ (append_assoc old (map f (parts (get_or items i d))) (map f (flat_map parts (drop (i + 1) items)))
    ∙ (ap (λ l. old ++ l) (sym (map-append f (parts (get_or items i d)) (flat_map parts (drop (i + 1) items))))
    ∙ (sym (ap (λ l. old ++ map f (flat_map parts l)) (next_items items i d lt)) ∙ same)))
