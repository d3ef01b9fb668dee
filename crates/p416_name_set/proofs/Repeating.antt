-- Whether a name stands twice, when some were seen already.
use Rattle.std.proofs.Common.{◌≡◌, ℕ, ◌+◌, ◌<◌, Bool, true, false, ◌||◌, List, [], ◌∷◌, ◌++◌, length, get_or, drop, map, refl, sym, ap, ◌∙◌, add-one, drop-cons}
use Rattle.std.specs.Bool.{Decides, MatchBool}
use Rattle.std.proofs.lemmas.Bool.{false≢true}
use Rattle.std.specs.List.{list_any}
use Rattle.std.specs.Str.{bytes_eq}
use Rattle.std.proofs.lemmas.Slice.Eq.{bytes_eq-Decides}
use Rattle.std.proofs.lemmas.List.Folds.{list_any-append}
use Rattle.p416_syntax.specs.Names.{Name, has_name, repeats}

-- one of these names was seen, or stands twice among them
abbrev pub repeats_behind : List Name → List Name → Bool
repeats_behind seen names = list_any (has_name seen) names || repeats names

same_by : (x y : Bool) (P Q : Type 0) → Decides x P → Decides y Q → (P → Q) → (Q → P) → x ≡ y
same_by true true P Q p q f g = refl
same_by true false P Q p q f g = absurd (false≢true (q.1 (f (p.0 refl))))
same_by false true P Q p q f g = absurd (false≢true (p.1 (g (q.0 refl))))
same_by false false P Q p q f g = refl

either_way : (a b : Name) → bytes_eq a b ≡ bytes_eq b a
either_way a b = same_by (bytes_eq a b) (bytes_eq b a) (a ≡ b) (b ≡ a) (bytes_eq-Decides a b) (bytes_eq-Decides b a) sym sym

regroup : (a b c d : Bool) → ((a || (b || false)) || (c || d)) ≡ ((a || c) || (b || d))
regroup true b c d = refl
regroup false true true d = refl
regroup false true false d = refl
regroup false false c d = refl

or_both : (a b c d : Bool) → a ≡ c → b ≡ d → (a || b) ≡ (c || d)
or_both a b c d e f = ap (λ (x : Bool). x || b) e ∙ ap (λ (y : Bool). c || y) f

-- one more name was seen
seen_more : (seen : List Name) (x : Name) (rest : List Name) → list_any (has_name (seen ++ x ∷ [])) rest ≡ (list_any (has_name seen) rest || has_name rest x)
seen_more seen x [] = refl
seen_more seen x (y ∷ rest) =
    or_both (has_name (seen ++ x ∷ []) y) (list_any (has_name (seen ++ x ∷ [])) rest) (has_name seen y || (bytes_eq x y || false)) (list_any (has_name seen) rest || has_name rest x)
    (list_any-append (bytes_eq y) seen (x ∷ []) ∙ ap (λ (b : Bool). has_name seen y || (b || false)) (either_way y x)) (seen_more seen x rest)
    ∙ regroup (has_name seen y) (bytes_eq x y) (list_any (has_name seen) rest) (has_name rest x)

shift : (a b c : Bool) → ((a || b) || c) ≡ (a || (b || c))
shift true b c = refl
shift false b c = refl

one_on : (seen : List Name) (x : Name) (rest : List Name) → has_name seen x ≡ false → repeats_behind (seen ++ x ∷ []) rest ≡ repeats_behind seen (x ∷ rest)
one_on seen x rest new =
    ap (λ (b : Bool). b || repeats rest) (seen_more seen x rest)
    ∙ (shift (list_any (has_name seen) rest) (has_name rest x) (repeats rest)
    ∙ ap (λ (b : Bool). (b || list_any (has_name seen) rest) || (has_name rest x || repeats rest)) (sym new))

found_by : (seen : List Name) (x : Name) (rest : List Name) → has_name seen x ≡ true → repeats_behind seen (x ∷ rest) ≡ true
found_by seen x rest found = ap (λ (b : Bool). (b || list_any (has_name seen) rest) || (has_name rest x || repeats rest)) found

next_items : {X : Type 0} (xs : List X) (i : ℕ) (d : X) → i < length xs → drop i xs ≡ get_or xs i d ∷ drop (i + 1) xs
next_items xs i d h = rw (add-one, drop-cons xs i d h) refl

pub new_now : {X : Type 0} (text : X → Name) (xs : List X) (i : ℕ) (d : X) (old new : List Name) (twice whole : Bool) → i < length xs → twice ≡ false
    → MatchBool twice (has_name old (text (get_or xs i d)) ≡ true) ((has_name old (text (get_or xs i d)) ≡ false) × (new ≡ old ++ text (get_or xs i d) ∷ []))
    → repeats_behind old (map text (drop i xs)) ≡ whole → repeats_behind new (map text (drop (i + 1) xs)) ≡ whole
new_now text xs i d old new twice whole lt isnt told same =
    let fresh : (has_name old (text (get_or xs i d)) ≡ false) × (new ≡ old ++ text (get_or xs i d) ∷ []) = rw isnt at told in
    ap (λ (l : List Name). repeats_behind l (map text (drop (i + 1) xs))) fresh.1
    ∙ (one_on old (text (get_or xs i d)) (map text (drop (i + 1) xs)) fresh.0
    ∙ (sym (ap (λ l. repeats_behind old (map text l)) (next_items xs i d lt)) ∙ same))

pub found_now : {X : Type 0} (text : X → Name) (xs : List X) (i : ℕ) (d : X) (old new : List Name) (twice whole : Bool) → i < length xs → twice ≡ true
    → MatchBool twice (has_name old (text (get_or xs i d)) ≡ true) ((has_name old (text (get_or xs i d)) ≡ false) × (new ≡ old ++ text (get_or xs i d) ∷ []))
    → repeats_behind old (map text (drop i xs)) ≡ whole → true ≡ whole
found_now text xs i d old new twice whole lt does told same =
    let found : has_name old (text (get_or xs i d)) ≡ true = rw does at told in
    sym (found_by old (text (get_or xs i d)) (map text (drop (i + 1) xs)) found)
    ∙ (sym (ap (λ l. repeats_behind old (map text l)) (next_items xs i d lt)) ∙ same)

none_seen : (names : List Name) → list_any (has_name []) names ≡ false
none_seen [] = refl
none_seen (x ∷ names) = none_seen names

pub begun : (names : List Name) → repeats_behind [] names ≡ repeats names
begun names = ap (λ (b : Bool). b || repeats names) (none_seen names)
