-- Names that are put into a set, each once.
use Rattle.std.proofs.Common.{◌≡◌, ℕ, ◌+◌, ◌<◌, Bool, true, false, if◌then◌else◌, List, [], ◌∷◌, ◌++◌, length, get_or, drop, map, refl, sym, ap, ◌∙◌, append_assoc}
use Rattle.std.specs.Bool.{MatchBool}
use Rattle.p414_syntax.specs.Names.{Name, has_name}
use Rattle.p414_syntax.specs.Distinct.{distinct_behind}
use Rattle.p414_preserved_check.specs.internal.Named.{added}
use Rattle.p414_preserved_check.proofs.Loops.{next_items}

pub added_by : (fresh : Bool) (old new : List Name) (name : Name) → MatchBool fresh ((has_name old name ≡ false) × (new ≡ old ++ name ∷ [])) ((has_name old name ≡ true) × (new ≡ old)) → new ≡ added old name
added_by true old new name (is, e) = e ∙ sym (ap (λ (t : Bool). if t then old else old ++ name ∷ []) is)
added_by false old new name (is, e) = e ∙ sym (ap (λ (t : Bool). if t then old else old ++ name ∷ []) is)

pub added_true : (old : List Name) (name : Name) → has_name old name ≡ true → added old name ≡ old
added_true old name is = ap (λ (t : Bool). if t then old else old ++ name ∷ []) is

pub added_false : (old : List Name) (name : Name) → has_name old name ≡ false → added old name ≡ old ++ name ∷ []
added_false old name is = ap (λ (t : Bool). if t then old else old ++ name ∷ []) is

put_by : (t : Bool) (old : List Name) (name : Name) (rest : List Name) → old ++ (if t then distinct_behind old rest else name ∷ distinct_behind (old ++ name ∷ []) rest) ≡ (if t then old else old ++ name ∷ []) ++ distinct_behind (if t then old else old ++ name ∷ []) rest
put_by true old name rest = refl
put_by false old name rest = sym (append_assoc old (name ∷ []) (distinct_behind (old ++ name ∷ []) rest))

pub put_now : {X : Type 0} (f : X → Name) (xs : List X) (i : ℕ) (d : X) (old new whole : List Name) → i < length xs → new ≡ added old (f (get_or xs i d)) → old ++ distinct_behind old (map f (drop i xs)) ≡ whole → new ++ distinct_behind new (map f (drop (i + 1) xs)) ≡ whole
put_now f xs i d old new whole h is same =
    ap (λ l. l ++ distinct_behind l (map f (drop (i + 1) xs))) is
    ∙ (sym (put_by (has_name old (f (get_or xs i d))) old (f (get_or xs i d)) (map f (drop (i + 1) xs)))
    ∙ (sym (ap (λ l. old ++ distinct_behind old (map f l)) (next_items xs i d h)) ∙ same))
