-- Turns of the loops that gather states and their names.
use Rattle.std.proofs.Common.{◌≡◌, ℕ, ◌+◌, ◌<◌, List, ◌∷◌, ◌++◌, length, get_or, drop, map, option_to_list, Option, Some, None, refl, sym, ap, ◌∙◌, append_assoc}
use Rattle.std.specs.Prelude.{filter_map}
use Rattle.std.specs.List.{cons_option}
use Rattle.std.proofs.lemmas.List.{drop_more}

kept_by : {X B : Type 0} (f : X → B) (o : Option X) (rest : List X) → map f (cons_option o rest) ≡ map f (option_to_list o) ++ map f rest
kept_by f None rest = refl
kept_by f (Some x) rest = refl

pub kept_now : {A X B : Type 0} (pick : A → Option X) (f : X → B) (items : List A) (i : ℕ) (d : A) (old new whole : List B) → i < length items → new ≡ old ++ map f (option_to_list (pick (get_or items i d))) → old ++ map f (filter_map pick (drop i items)) ≡ whole → new ++ map f (filter_map pick (drop (i + 1) items)) ≡ whole
kept_now pick f items i d old new whole lt is same =
    ap (λ l. l ++ map f (filter_map pick (drop (i + 1) items))) is
    ∙ append_assoc old (map f (option_to_list (pick (get_or items i d)))) (map f (filter_map pick (drop (i + 1) items)))
    ∙ ap (λ l. old ++ l) (sym (kept_by f (pick (get_or items i d)) (filter_map pick (drop (i + 1) items))))
    ∙ sym (ap (λ l. old ++ map f (filter_map pick l)) (drop_more items i d lt))
    ∙ same

picked_by : {X : Type 0} (o : Option X) (rest : List X) → cons_option o rest ≡ option_to_list o ++ rest
picked_by None rest = refl
picked_by (Some x) rest = refl

pub picked_now : {A X : Type 0} (pick : A → Option X) (items : List A) (i : ℕ) (d : A) (old new whole : List X) → i < length items → new ≡ old ++ option_to_list (pick (get_or items i d)) → old ++ filter_map pick (drop i items) ≡ whole → new ++ filter_map pick (drop (i + 1) items) ≡ whole
picked_now pick items i d old new whole lt is same =
    ap (λ l. l ++ filter_map pick (drop (i + 1) items)) is
    ∙ append_assoc old (option_to_list (pick (get_or items i d))) (filter_map pick (drop (i + 1) items))
    ∙ ap (λ l. old ++ l) (sym (picked_by (pick (get_or items i d)) (filter_map pick (drop (i + 1) items))))
    ∙ sym (ap (λ l. old ++ filter_map pick l) (drop_more items i d lt))
    ∙ same
