-- Turns of the loops that find where parameters end.
use Rattle.std.proofs.Common.{◌≡◌, ℕ, suc, zero, ◌+◌, ◌<◌, ◌≤◌, Bool, true, ◌||◌, ◌&&◌, List, [], ◌∷◌, ◌++◌, length, get_or, set, drop, map, Option, Some, None, refl, sym, ap, ◌∙◌, append_assoc, arith}
use Rattle.std.specs.List.{cons_option}
use Rattle.p414_syntax.specs.declared.actions.Action.{Action}
use Rattle.p414_syntax.specs.declared.syntax.Decl.{Decl}
use Rattle.p414_syntax.specs.declared.place.ArgumentPlace.{ArgumentPlace}
use Rattle.p414_syntax.specs.Uses.{first_place, further_places}
use Rattle.p414_syntax.specs.Arguments.{Argument, action_in, actions}
use Rattle.p414_list_check.proofs.Loops.{next_items}
use Rattle.p414_expanded_check.specs.declared.flow.Pass.{Pass}
use Rattle.p414_expanded_check.specs.internal.Passing.{refuses}
use Rattle.p414_expanded_check.specs.internal.Flow.{starts_from, end_from, pass_of, passes_on, first_pass, passes_at, is_set, with_pass, with_passes, refused_from, IsBegun}

-- the parameters of a declaration that is an action

begun_by : (o : Option Action) (rest : List Action) (old new : List ℕ) (first next : ℕ) (whole : List ℕ) (end : ℕ) → IsBegun old new first o next → old ++ starts_from first (cons_option o rest) ≡ whole → end_from first (cons_option o rest) ≡ end → (new ++ starts_from next rest ≡ whole) × (end_from next rest ≡ end)
begun_by None rest old new first next whole end is same last =
    (ap (λ n. new ++ starts_from n rest) is.1 ∙ (ap (λ l. l ++ starts_from first rest) is.0 ∙ same), ap (λ n. end_from n rest) is.1 ∙ last)
begun_by (Some a) rest old new first next whole end is same last = (
  ap (λ n. new ++ starts_from n rest) is.1 ∙ (ap (λ l. l ++ starts_from (first + length a.parameters) rest) is.0 ∙ (append_assoc old (first ∷ []) (starts_from (first + length a.parameters) rest) ∙ same)),
  ap (λ n. end_from n rest) is.1 ∙ last,
)

pub begun_now : (decls : List Decl) (i : ℕ) (d : Decl) (old new : List ℕ) (first next : ℕ) (whole : List ℕ) (end : ℕ) → i < length decls → IsBegun old new first (action_in (get_or decls i d)) next → old ++ starts_from first (actions (drop i decls)) ≡ whole → end_from first (actions (drop i decls)) ≡ end → (new ++ starts_from next (actions (drop (i + 1) decls)) ≡ whole) × (end_from next (actions (drop (i + 1) decls)) ≡ end)
begun_now decls i d old new first next whole end h is same last =
    begun_by (action_in (get_or decls i d)) (actions (drop (i + 1) decls)) old new first next whole end is
    (sym (ap (λ xs. old ++ starts_from first (actions xs)) (next_items decls i d h)) ∙ same)
    (sym (ap (λ xs. end_from first (actions xs)) (next_items decls i d h)) ∙ last)

-- an argument that may be passed on

pub on_now : {X : Type 0} (f : X → Argument) (xs : List X) (i : ℕ) (d : X) (next here following : ℕ) (old new whole : List Pass) → i < length xs → new ≡ old ++ pass_of next here (f (get_or xs i d)) → following ≡ next + 1 → old ++ passes_on next here (map f (drop i xs)) ≡ whole → new ++ passes_on following here (map f (drop (i + 1) xs)) ≡ whole
on_now f xs i d next here following old new whole h is n same =
    ap (λ k. new ++ passes_on k here (map f (drop (i + 1) xs))) n
    ∙ (ap (λ l. l ++ passes_on (next + 1) here (map f (drop (i + 1) xs))) is
    ∙ (append_assoc old (pass_of next here (f (get_or xs i d))) (passes_on (next + 1) here (map f (drop (i + 1) xs)))
    ∙ (sym (ap (λ ys. old ++ passes_on next here (map f ys)) (next_items xs i d h)) ∙ same)))

pub at_now : {X : Type 0} (f : X → Argument) (xs : List X) (i : ℕ) (d : X) (here : ℕ) (left : List ArgumentPlace) (old new whole : List Pass) → i < length xs → new ≡ old ++ first_pass here (first_place left) (f (get_or xs i d)) → old ++ passes_at here left (map f (drop i xs)) ≡ whole → new ++ passes_at here (further_places left) (map f (drop (i + 1) xs)) ≡ whole
at_now f xs i d here left old new whole h is same =
    ap (λ l. l ++ passes_at here (further_places left) (map f (drop (i + 1) xs))) is
    ∙ (append_assoc old (first_pass here (first_place left) (f (get_or xs i d))) (passes_at here (further_places left) (map f (drop (i + 1) xs)))
    ∙ (sym (ap (λ ys. old ++ passes_at here left (map f ys)) (next_items xs i d h)) ∙ same))

-- numbers that are come to

pub set_beyond : (flags : List Bool) (n : ℕ) → length flags ≤ n → flags ≡ set flags n true
set_beyond [] n h = refl
set_beyond (b ∷ flags) zero h = absurd (omega arith)
set_beyond (b ∷ flags) (suc n) h = ap (λ l. b ∷ l) (set_beyond flags n (omega arith))

pub passes_now : (passes : List Pass) (i : ℕ) (d : Pass) (old new whole : List Bool) → i < length passes → new ≡ with_pass old (get_or passes i d) → with_passes old (drop i passes) ≡ whole → with_passes new (drop (i + 1) passes) ≡ whole
passes_now passes i d old new whole h is same =
    ap (λ l. with_passes l (drop (i + 1) passes)) is ∙ (sym (ap (with_passes old) (next_items passes i d h)) ∙ same)

-- an argument that may be refused
pub refused_now : {X : Type 0} (p : ArgumentPlace) (flags : List Bool) (f : X → Argument) (xs : List X) (i : ℕ) (d : X) (n : ℕ) → i < length xs → refused_from p flags n (map f (drop i xs)) ≡ ((is_set flags n && refuses p (f (get_or xs i d))) || refused_from p flags (n + 1) (map f (drop (i + 1) xs)))
refused_now p flags f xs i d n h = ap (λ ys. refused_from p flags n (map f ys)) (next_items xs i d h)
