-- Runs of octets at the front of a text.
use Rattle.std.proofs.Common.{◌≡◌, ℕ, suc, ◌+◌, ◌<◌, Bool, true, false, List, [], ◌∷◌, ◌++◌, length, get_or, drop, refl, ap, ◌∙◌, arith, cond}
use Rattle.std.specs.Prelude.{◌&&◌, ◌||◌, not}
use Rattle.std.specs.List.{prefix_len, list_all}
use Rattle.std.proofs.lemmas.Bool.{and_from, and_parts}

pub or_true : (a b : Bool) → b ≡ true → (a || b) ≡ true
or_true true b e = refl
or_true false b e = e

pub or_first : (a b : Bool) → a ≡ true → (a || b) ≡ true
or_first true b e = refl
or_first false b e = absurd (cc)

pub or_left : (a b : Bool) → (a || b) ≡ false → a ≡ false
or_left true b e = absurd (cc)
or_left false b e = refl

pub or_right : (a b : Bool) → (a || b) ≡ false → b ≡ false
or_right true b e = absurd (cc)
or_right false b e = e

pub and_false : (a b : Bool) → b ≡ false → (a && b) ≡ false
and_false true b e = e
and_false false b e = refl

pub not_true : (b : Bool) → not b ≡ true → b ≡ false
not_true true e = absurd (cc)
not_true false e = refl

pub not_false : (b : Bool) → b ≡ false → not b ≡ true
not_false b e = ap not e

-- a run ends where the next octet doesn't pass
run_nothing : (p : ℕ → Bool) (rest : List ℕ) → p (get_or rest 0 0) ≡ false → prefix_len p rest ≡ 0
run_nothing p [] e = refl
run_nothing p (b ∷ rest) e = ap (λ t. cond t (1 + prefix_len p rest) 0) e

pub run_is : (p : ℕ → Bool) (xs rest : List ℕ) → list_all p xs ≡ true → p (get_or rest 0 0) ≡ false → prefix_len p (xs ++ rest) ≡ length xs
run_is p [] rest a e = run_nothing p rest e
run_is p (x ∷ xs) rest a e =
    let both = and_parts (p x) (list_all p xs) a in
    ap (λ t. cond t (1 + prefix_len p (xs ++ rest)) 0) both.0
    ∙ (let k : prefix_len p (xs ++ rest) ≡ length xs = run_is p xs rest both.1 e in let g : 1 + prefix_len p (xs ++ rest) ≡ suc (length xs) = omega (arith, k) in g)

pub all_weaker : (p q : ℕ → Bool) (xs : List ℕ) → ((x : ℕ) → p x ≡ true → q x ≡ true) → list_all p xs ≡ true → list_all q xs ≡ true
all_weaker p q [] f a = refl
all_weaker p q (x ∷ xs) f a = let both = and_parts (p x) (list_all p xs) a in and_from (q x) (list_all q xs) (f x both.0) (all_weaker p q xs f both.1)

-- what stands behind a list
pub behind_first : (xs rest : List ℕ) → get_or (xs ++ rest) (length xs) 0 ≡ get_or rest 0 0
behind_first [] rest = refl
behind_first (x ∷ xs) rest = behind_first xs rest

pub front_first : (xs rest : List ℕ) → 0 < length xs → get_or (xs ++ rest) 0 0 ≡ get_or xs 0 0
front_first [] rest l = absurd (omega arith)
front_first (x ∷ xs) rest l = refl

pub second_behind : (d : List ℕ) (b : ℕ) (more : List ℕ) → get_or (d ++ b ∷ more) (length d + 1) 0 ≡ get_or more 0 0
second_behind [] b more = refl
second_behind (x ∷ d) b more = (let e : suc (length d) + 1 ≡ suc (length d + 1) = omega arith in ap (λ n. get_or (x ∷ (d ++ b ∷ more)) n 0) e) ∙ second_behind d b more

pub drop_two : (d : List ℕ) (b : ℕ) (more : List ℕ) → drop (length d + 1) (d ++ b ∷ more) ≡ more
drop_two [] b more = refl
drop_two (x ∷ d) b more = (let e : suc (length d) + 1 ≡ suc (length d + 1) = omega arith in ap (λ n. drop n (x ∷ (d ++ b ∷ more))) e) ∙ drop_two d b more
