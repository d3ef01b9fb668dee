-- What a made name ends in tells its letter and its number.
use Rattle.std.proofs.Common.{◌≡◌, ℕ, ◌+◌, ◌-◌, ◌%◌, ◌<◌, ◌^◌, true, false, List, [], ◌∷◌, ◌++◌, length, take, get_or, decimal, refl, sym, ap, ◌∙◌, arith}
use Rattle.std.specs.List.{list_all}
use Rattle.std.proofs.lemmas.Bool.{and_left, and_right, true≢false}
use Rattle.std.proofs.lemmas.Bool.Decides.{nat_tests}
use Rattle.std.proofs.lemmas.List.{append_assoc, length-append, get_or_at, same_from_push}
use Rattle.std.proofs.lemmas.List.Folds.{list_all-append}
use Rattle.std.proofs.lemmas.Fmt.{decimal_by_steps, decimal_injective}
use Rattle.token_division.specs.Octets.{is_decimal}
use Rattle.p414_syntax.specs.Names.{Name}
use Rattle.lower_laws_names.specs.Made.{line, looks_made, made}

-- digits

one_digit : (n : ℕ) → n < 10 → is_decimal (48 + n) ≡ true
one_digit n h = grind (arith, nat_tests)

-- digits alone, and at least one
pub record Digits (ds : List ℕ) : Type 0 where
  pub all : list_all is_decimal ds ≡ true
  pub front : List ℕ
  pub last : ℕ
  pub parts : ds ≡ front ++ last ∷ []
  pub ends : is_decimal last ≡ true

single : (n : ℕ) → n < 10 → Digits ((48 + n) ∷ [])
single n h =
    record { all = rw (one_digit n h) refl; front = []; last = 48 + n; parts = refl; ends = one_digit n h }

longer : (n : ℕ) (ds : List ℕ) → Digits ds → Digits (ds ++ (48 + n % 10) ∷ [])
longer n ds d =
    let few : n % 10 < 10 = omega arith in
    record {
      all = list_all-append is_decimal ds ((48 + n % 10) ∷ []) ∙ (rw (d.all, one_digit (n % 10) few) refl);
      front = ds;
      last = 48 + n % 10;
      parts = refl;
      ends = one_digit (n % 10) few;
    }

pub digits-decimal : (n : ℕ) → n < 2 ^ 64 → Digits (decimal n)
digits-decimal n h = decimal_by_steps (λ (m : ℕ) (ds : List ℕ). Digits ds) single (λ m ds le d. longer m ds d) n h

not_all : (ys es : List ℕ) (b : ℕ) → is_decimal b ≡ false → list_all is_decimal (ys ++ b ∷ es) ≡ false
not_all [] es b e = and_left (is_decimal b) (list_all is_decimal es) e
not_all (y ∷ ys) es b e = and_right (is_decimal y) (list_all is_decimal (ys ++ b ∷ es)) (not_all ys es b e)

within : (ds ys es : List ℕ) (b : ℕ) → list_all is_decimal ds ≡ true → is_decimal b ≡ false → ds ≡ ys ++ b ∷ es → ⊥
within ds ys es b all e same = true≢false (sym all ∙ (ap (list_all is_decimal) same ∙ not_all ys es b e))

-- behind the last octet that is no digit
same_end : (xs ys ds es : List ℕ) (a b : ℕ) → is_decimal a ≡ false → is_decimal b ≡ false → list_all is_decimal ds ≡ true
    → list_all is_decimal es ≡ true → xs ++ a ∷ ds ≡ ys ++ b ∷ es → (a ≡ b) × (ds ≡ es)
same_end [] [] ds es a b p q all other e = (cc, cc)
same_end [] (y ∷ ys) ds es a b p q all other e = let rest : ds ≡ ys ++ b ∷ es = cc in absurd (within ds ys es b all q rest)
same_end (x ∷ xs) [] ds es a b p q all other e = let rest : es ≡ xs ++ a ∷ ds = cc in absurd (within es xs ds a other p rest)
same_end (x ∷ xs) (y ∷ ys) ds es a b p q all other e = let rest : xs ++ a ∷ ds ≡ ys ++ b ∷ es = cc in same_end xs ys ds es a b p q all other rest

front_of : (a j : ℕ) (n : Name) → take 48 n ++ line ∷ a ∷ decimal j ≡ (take 48 n ++ line ∷ []) ++ a ∷ decimal j
front_of a j n = sym (append_assoc (take 48 n) (line ∷ []) (a ∷ decimal j))

pub made_same : (a b j k : ℕ) (n m : Name) → is_decimal a ≡ false → is_decimal b ≡ false → j < 2 ^ 64 → k < 2 ^ 64 → made a j n ≡ made b k m
    → (a ≡ b) × (j ≡ k)
made_same a b j k n m p q small few e =
    let fronts = (same_from_push (take 48 n ++ line ∷ a ∷ decimal j) (take 48 m ++ line ∷ b ∷ decimal k) line line e).0 in
    let ends = same_end (take 48 n ++ line ∷ []) (take 48 m ++ line ∷ []) (decimal j) (decimal k) a b p q (digits-decimal j small).all (digits-decimal k few).all (sym (front_of a j n) ∙ (fronts ∙ front_of b k m)) in
    (ends.0, decimal_injective j k small few ends.1)

-- a made name looks made

looks_at : (zs : List ℕ) (d : ℕ) → is_decimal d ≡ true → looks_made ((zs ++ d ∷ []) ++ line ∷ []) ≡ true
looks_at zs d e =
    let long : length ((zs ++ d ∷ []) ++ line ∷ []) ≡ length zs + 2 = omega (arith, length-append (zs ++ d ∷ []) (line ∷ []), length-append zs (d ∷ [])) in
    let last : length zs + 2 - 1 ≡ length zs + 1 = omega arith in
    let other : length zs + 2 - 2 ≡ length zs = omega arith in
    let whole : (zs ++ d ∷ []) ++ line ∷ [] ≡ zs ++ d ∷ line ∷ [] = append_assoc zs (d ∷ []) (line ∷ []) in
    let at_last : get_or ((zs ++ d ∷ []) ++ line ∷ []) (length zs + 1) 0 ≡ line = get_or_at (zs ++ d ∷ []) line [] 0 (length zs + 1) (length-append zs (d ∷ [])) in
    let at_other : get_or ((zs ++ d ∷ []) ++ line ∷ []) (length zs) 0 ≡ d = ap (λ (l : List ℕ). get_or l (length zs) 0) whole ∙ get_or_at zs d (line ∷ []) 0 (length zs) refl in
    rw (long, last, other, at_last, at_other, e) refl

pub looks_made-made : (a j : ℕ) (n : Name) → j < 2 ^ 64 → looks_made (made a j n) ≡ true
looks_made-made a j n small =
    let d = digits-decimal j small in
    let whole : take 48 n ++ line ∷ a ∷ decimal j ≡ (take 48 n ++ line ∷ a ∷ d.front) ++ d.last ∷ [] = ap (λ (ds : List ℕ). take 48 n ++ line ∷ a ∷ ds) d.parts ∙ sym (append_assoc (take 48 n) (line ∷ a ∷ d.front) (d.last ∷ [])) in
    ap (λ (l : List ℕ). looks_made (l ++ line ∷ [])) whole ∙ looks_at (take 48 n ++ line ∷ a ∷ d.front) d.last d.ends
