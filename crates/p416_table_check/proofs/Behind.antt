-- One turn along parameters: whether one without a direction stands in front.
use Rattle.std.proofs.Common.{◌≡◌, ℕ, ◌+◌, ◌<◌, Bool, true, false, not, ◌||◌, ◌&&◌, List, ◌∷◌, length, get_or, drop, refl, sym, ap, ◌∙◌, add-one, drop-cons}
use Rattle.std.specs.List.{list_any}
use Rattle.std.proofs.lemmas.Bool.{false≢true}
use Rattle.p416_syntax.specs.declared.parts.Param.{Param}
use Rattle.p416_syntax.specs.Tables.{is_directed_parameter, is_behind}

-- what is left to be asked, where one without a direction was seen or wasn't
abbrev left : Bool → List Param → Bool
left seen ps = (seen && list_any is_directed_parameter ps) || is_behind ps

next_items : {X : Type 0} (xs : List X) (i : ℕ) (d : X) → i < length xs → drop i xs ≡ get_or xs i d ∷ drop (i + 1) xs
next_items xs i d h = rw (add-one, drop-cons xs i d h) refl

turn : (seen directed any behind : Bool) → (seen && directed) ≡ false → ((not directed && any) || behind) ≡ ((seen && (directed || any)) || ((not directed && any) || behind))
turn true true any behind h = absurd (false≢true (sym h))
turn true false true behind h = refl
turn true false false behind h = refl
turn false directed any behind h = refl

over : (seen directed any behind : Bool) → (seen && directed) ≡ true → ((seen && (directed || any)) || behind) ≡ true
over true true any behind h = refl
over true false any behind h = absurd (false≢true h)
over false directed any behind h = absurd (false≢true h)

pub behind_now : (xs : List Param) (i : ℕ) (d : Param) (seen directed both whole : Bool) → i < length xs → d ≡ get_or xs i d → directed ≡ is_directed_parameter d → both ≡ (seen && directed) → both ≡ false
    → ((seen && list_any is_directed_parameter (drop i xs)) || is_behind (drop i xs)) ≡ whole
    → ((not directed && list_any is_directed_parameter (drop (i + 1) xs)) || is_behind (drop (i + 1) xs)) ≡ whole
behind_now xs i d seen directed both whole lt here is both_is isnt same =
    ap (λ b. (not b && list_any is_directed_parameter (drop (i + 1) xs)) || is_behind (drop (i + 1) xs)) is
    ∙ (turn seen (is_directed_parameter d) (list_any is_directed_parameter (drop (i + 1) xs)) (is_behind (drop (i + 1) xs)) (ap (λ b. seen && b) (sym is) ∙ (sym both_is ∙ isnt))
    ∙ (ap (λ y. left seen (y ∷ drop (i + 1) xs)) here ∙ (sym (ap (left seen) (next_items xs i d lt)) ∙ same)))

pub found_now : (xs : List Param) (i : ℕ) (d : Param) (seen directed both whole : Bool) → i < length xs → d ≡ get_or xs i d → directed ≡ is_directed_parameter d → both ≡ (seen && directed) → both ≡ true
    → ((seen && list_any is_directed_parameter (drop i xs)) || is_behind (drop i xs)) ≡ whole → true ≡ whole
found_now xs i d seen directed both whole lt here is both_is does same =
    sym (over seen (is_directed_parameter d) (list_any is_directed_parameter (drop (i + 1) xs)) ((not (is_directed_parameter d) && list_any is_directed_parameter (drop (i + 1) xs)) || is_behind (drop (i + 1) xs)) (ap (λ b. seen && b) (sym is) ∙ (sym both_is ∙ does)))
    ∙ (ap (λ y. left seen (y ∷ drop (i + 1) xs)) here ∙ (sym (ap (left seen) (next_items xs i d lt)) ∙ same))
