-- What is put behind what was collected, and what stands for the parameters of an action.
use Rattle.std.proofs.Common.{◌≡◌, ℕ, ◌+◌, ◌<◌, Bool, true, false, ◌||◌, List, [], ◌∷◌, ◌++◌, length, refl, sym, ap, ◌∙◌, subst, append_assoc, drop, get_or, add-one, drop-cons, Result, OnOk}
use Rattle.std.proofs.lemmas.Grind.{flat_map-append}
use Rattle.std.specs.Bool.{MatchBool}
use Rattle.std.specs.List.{flat_map}
use Rattle.std.specs.Str.{bytes_eq}
use Rattle.std.specs.Bool.{Decides}
use Rattle.std.proofs.lemmas.Slice.Eq.{bytes_eq-Decides}
use Rattle.std.proofs.lemmas.List.Folds.{list_any-append}
use Rattle.p414_syntax.specs.declared.actions.Call.{Call}
use Rattle.p414_syntax.specs.Names.{Name, has_name}
use Rattle.p414_syntax.specs.Uses.{Use, uses_of_call}
use Rattle.p414_uses.specs.declared.uses.Use as kept
use Rattle.p414_uses.specs.internal.Collected.{Adds}

-- two lists are added one after another
pub added_two : {A : Type 0} (old a b m n : List A) → m ≡ old ++ a → n ≡ m ++ b → n ≡ old ++ (a ++ b)
added_two old a b m n e f = f ∙ (ap (λ l. l ++ b) e ∙ append_assoc old a b)

-- the same of what two lists give
pub added_flat : {A B : Type 0} (g : A → List B) (xs ys : List A) (old m n : List B) → m ≡ old ++ flat_map g xs → n ≡ m ++ flat_map g ys → n ≡ old ++ flat_map g (xs ++ ys)
added_flat g xs ys old m n e f = added_two old (flat_map g xs) (flat_map g ys) m n e f ∙ ap (λ l. old ++ l) (sym (flat_map-append g xs ys))

-- a name is put into a set, unless it is there
same_again : (old rest : List Name) (x n : Name) (b : Bool) → Decides b (n ≡ x) → has_name old x ≡ true → (has_name old n || has_name rest n) ≡ (has_name old n || (b || has_name rest n))
same_again old rest x n false d there = refl
same_again old rest x n true d there =
    let e : has_name old n ≡ true = subst (λ y. has_name old y ≡ true) (sym (d.0 refl)) there in
    rw e refl

one_behind : (a b c : Bool) → ((a || (b || false)) || c) ≡ (a || (b || c))
one_behind true b c = refl
one_behind false true c = refl
one_behind false false c = refl

pub kept_on : (old new rest : List Name) (x : Name) (added : Bool) → MatchBool added ((has_name old x ≡ false) × (new ≡ old ++ x ∷ [])) ((has_name old x ≡ true) × (new ≡ old)) → (n : Name) → (has_name new n || has_name rest n) ≡ (has_name old n || (bytes_eq n x || has_name rest n))
kept_on old new rest x true h n =
    ap (λ m. has_name m n || has_name rest n) h.1 ∙ (ap (λ b. b || has_name rest n) (list_any-append (bytes_eq n) old (x ∷ [])) ∙ one_behind (has_name old n) (bytes_eq n x) (has_name rest n))
kept_on old new rest x false h n =
    ap (λ m. has_name m n || has_name rest n) h.1 ∙ same_again old rest x n (bytes_eq n x) (bytes_eq-Decides n x) h.0

-- what stands for the parameters of an action gives the same uses
pub same_calls : (names set : List Name) (calls : List Call) → ((n : Name) → has_name set n ≡ has_name names n) → flat_map (uses_of_call (has_name set)) calls ≡ flat_map (uses_of_call (has_name names)) calls
same_calls names set calls h = λ i. flat_map (uses_of_call (λ n. h n i)) calls

-- the same uses are added
pub onto : {E : Type 0} (result : Result (Unit {0}) E) (old new : List kept.Use) (a b : List Use) → a ≡ b → OnOk result (Adds old new a) → OnOk result (Adds old new b)
onto result old new a b e h = subst (λ l. OnOk result (Adds old new l)) e h

-- the names from a place on: the one there, and those behind it
pub next_name : (names : List Name) (i : ℕ) (d name : Name) → i < length names → name ≡ get_or names i d → drop i names ≡ name ∷ drop (i + 1) names
next_name names i d name h is =
    let e : drop i names ≡ get_or names i d ∷ drop (i + 1) names = rw (add-one, drop-cons names i d h) refl in
    e ∙ ap (λ (n : Name). n ∷ drop (i + 1) names) (sym is)
