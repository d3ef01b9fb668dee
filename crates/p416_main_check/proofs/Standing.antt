-- Where a name stands among others, kept where the first name equal to it stands.
use Rattle.std.proofs.Common.{◌≡◌, ℕ, zero, suc, ◌+◌, ◌<◌, ◌≤◌, Bool, true, false, not, cond, ltb, Option, Some, None, List, [], ◌∷◌, ◌++◌, length, take, get_or, set, replicate, refl, sym, ap, ◌∙◌, subst, arith, inl, inr, nat_eq}
use Rattle.std.specs.List.{position_or_len}
use Rattle.std.specs.Str.{bytes_eq}
use Rattle.std.proofs.lemmas.Bool.{cases_eq, ne_eqb, lt-ltb, false≢true}
use Rattle.std.proofs.lemmas.Bool.Decides.{nat_tests}
use Rattle.std.proofs.lemmas.List.{take_more, length-take-le, length-set, length-replicate, get_or-set_same, get_or-set_other}
use Rattle.std.proofs.lemmas.List.Quantifiers.{position-Some}
use Rattle.std.proofs.lemmas.Slice.Eq.{bytes_eq-Decides}
use Rattle.name_numbers.specs.Names.{find_name}
use Rattle.p416_syntax.specs.Names.{Name}
use Rattle.p416_syntax.specs.Main.{positions_from}
use Rattle.p416_main_check.specs.internal.Places.{ArePlaces, added}

-- equal either way round

nat_either : (x y : ℕ) → nat_eq x y ≡ nat_eq y x
nat_either x y =
    elim (cases_eq x y) [
      | inl same ↦ rw same refl
      | inr apart ↦ rw (ne_eqb x y apart, ne_eqb y x (λ same. apart (sym same))) refl
    ]

bytes_either : (xs ys : List ℕ) → bytes_eq xs ys ≡ bytes_eq ys xs
bytes_either [] [] = refl
bytes_either [] (y ∷ ys) = refl
bytes_either (x ∷ xs) [] = refl
bytes_either (x ∷ xs) (y ∷ ys) = rw (nat_either x y, bytes_either xs ys) refl

same_name : (a b : Name) → bytes_eq a b ≡ true → a ≡ b
same_name a b = (bytes_eq-Decides a b).0

-- a name that isn't found stands nowhere

none_over : (k count : ℕ) (b : Bool) → ltb k count ≡ b → cond b (Some k) None ≡ None → count ≤ k
none_over k count true e none = absurd (cc none)
none_over k count false e none = grind (arith, nat_tests)

nowhere_from : (n : ℕ) (names : List Name) (text : Name) → length names ≤ position_or_len (bytes_eq text) names → positions_from n names text ≡ []
nowhere_from n [] text le = refl
nowhere_from n (x ∷ names) text le =
    ap (λ (b : Bool). cond b (n ∷ positions_from (suc n) names text) (positions_from (suc n) names text)) (bytes_either x text)
    ∙ by_first (bytes_eq text x) le (nowhere_from (suc n) names text)
  where
    by_first : (b : Bool) → length (x ∷ names) ≤ cond (not b) (1 + position_or_len (bytes_eq text) names) 0 → (length names ≤ position_or_len (bytes_eq text) names → positions_from (suc n) names text ≡ [])
        → cond b (n ∷ positions_from (suc n) names text) (positions_from (suc n) names text) ≡ []
    by_first true le more = absurd (omega arith)
    by_first false le more = more (omega arith)

pub nowhere : (names : List Name) (text : Name) → find_name names text ≡ None → positions_from 0 names text ≡ []
nowhere names text none = nowhere_from 0 names text (none_over (position_or_len (bytes_eq text) names) (length names) (ltb (position_or_len (bytes_eq text) names) (length names)) refl none)

-- one name more

push_by : (n : ℕ) (names : List Name) (x text : Name) (b : Bool) → bytes_eq x text ≡ b → positions_from n (names ++ x ∷ []) text ≡ cond b (positions_from n names text ++ (n + length names) ∷ []) (positions_from n names text)
push_by n [] x text true e = let here : n + 0 ≡ n = omega arith in rw (e, here) refl
push_by n [] x text false e = rw e refl
push_by n (y ∷ names) x text b e =
    let count : suc n + length names ≡ n + suc (length names) = omega arith in
    ap (λ (xs : List ℕ). cond (bytes_eq y text) (n ∷ xs) xs) (push_by (suc n) names x text b e)
    ∙ (by_first (bytes_eq y text) b
    ∙ ap (λ (k : ℕ). cond b (positions_from n (y ∷ names) text ++ k ∷ []) (positions_from n (y ∷ names) text)) count)
  where
    by_first : (a b : Bool)
        → cond a (n ∷ cond b (positions_from (suc n) names text ++ (suc n + length names) ∷ []) (positions_from (suc n) names text)) (cond b (positions_from (suc n) names text ++ (suc n + length names) ∷ []) (positions_from (suc n) names text))
        ≡ cond b (cond a (n ∷ positions_from (suc n) names text) (positions_from (suc n) names text) ++ (suc n + length names) ∷ []) (cond a (n ∷ positions_from (suc n) names text) (positions_from (suc n) names text))
    by_first true true = refl
    by_first true false = refl
    by_first false true = refl
    by_first false false = refl

-- the names up to a place

pub record SoFar (names : List Name) (i : ℕ) (places : List (List ℕ)) : Type 0 where
  pub counted : length places ≡ length names
  pub each : (text : Name) (n : ℕ) → find_name names text ≡ Some n → get_or places n [] ≡ positions_from 0 (take i names) text

abbrev no_places : ℕ → List (List ℕ)
no_places count = replicate count []

none_there : (count n : ℕ) → get_or (no_places count) n [] ≡ []
none_there zero n = refl
none_there (suc count) zero = refl
none_there (suc count) (suc n) = none_there count n

pub begun : (names : List Name) (count : ℕ) (places : List (List ℕ)) → count ≡ length names → places ≡ replicate count [] → SoFar names 0 places
begun names count places is all = record {
  counted = ap length all ∙ (length-replicate count [] ∙ is);
  each = λ text n found. ap (λ (xs : List (List ℕ)). get_or xs n []) all ∙ none_there count n;
}

some_is : {A : Type 0} (x y : A) → Some x ≡ Some y → x ≡ y
some_is x y e = cc e

module _ (names : List Name) (i : ℕ) (x : Name) (places : List (List ℕ)) (lt : i < length names) (is : x ≡ get_or names i x) (before : SoFar names i places) where
  more : (text : Name) (b : Bool) → bytes_eq x text ≡ b → positions_from 0 (take (i + 1) names) text ≡ cond b (positions_from 0 (take i names) text ++ i ∷ []) (positions_from 0 (take i names) text)
  more text b e =
      let taken : length (take i names) ≡ i = length-take-le i names (omega arith) in
      let count : 0 + length (take i names) ≡ i = omega arith in
      ap (λ (xs : List Name). positions_from 0 xs text) (take_more names i x lt ∙ ap (λ (y : Name). take i names ++ y ∷ []) (sym is))
      ∙ (push_by 0 (take i names) x text b e
      ∙ ap (λ (n : ℕ). cond b (positions_from 0 (take i names) text ++ n ∷ []) (positions_from 0 (take i names) text)) count)

  count_by : (o : Option ℕ) → length (added o i places) ≡ length places
  count_by None = refl
  count_by (Some n) = by_test (ltb n (length places)) where
    by_test : (b : Bool) → length (cond b (set places n (get_or places n [] ++ i ∷ [])) places) ≡ length places
    by_test true = length-set places n (get_or places n [] ++ i ∷ [])
    by_test false = refl

  here : (n : ℕ) → n < length places → get_or (added (Some n) i places) n [] ≡ get_or places n [] ++ i ∷ []
  here n within =
      ap (λ (b : Bool). get_or (cond b (set places n (get_or places n [] ++ i ∷ [])) places) n []) (lt-ltb n (length places) within)
      ∙ get_or-set_same places n (get_or places n [] ++ i ∷ []) [] within

  elsewhere : (o : Option ℕ) (n : ℕ) → ((m : ℕ) → o ≡ Some m → m ≡ n → ⊥) → get_or (added o i places) n [] ≡ get_or places n []
  elsewhere None n apart = refl
  elsewhere (Some m) n apart = by_test (ltb m (length places)) where
    by_test : (b : Bool) → get_or (cond b (set places m (get_or places m [] ++ i ∷ [])) places) n [] ≡ get_or places n []
    by_test true = get_or-set_other places m n (get_or places m [] ++ i ∷ []) [] (λ same. apart m refl (sym same))
    by_test false = refl

  -- two names that are found at one place are the same
  same_place : (text : Name) (m n : ℕ) → find_name names x ≡ Some m → find_name names text ≡ Some n → m ≡ n → x ≡ text
  same_place text m n found other same =
      same_name x (get_or names m []) (position-Some (bytes_eq x) names m [] found).1
      ∙ (ap (λ (k : ℕ). get_or names k []) same ∙ sym (same_name text (get_or names n []) (position-Some (bytes_eq text) names n [] other).1))

  each_by : (text : Name) (n : ℕ) (b : Bool) → bytes_eq x text ≡ b → find_name names text ≡ Some n → get_or (added (find_name names x) i places) n [] ≡ positions_from 0 (take (i + 1) names) text
  each_by text n true e found =
      let same : x ≡ text = same_name x text e in
      let at : find_name names x ≡ Some n = ap (find_name names) same ∙ found in
      let within : n < length names = (position-Some (bytes_eq text) names n [] found).0 in
      ap (λ (o : Option ℕ). get_or (added o i places) n []) at
      ∙ (here n (subst (λ (k : ℕ). n < k) (sym before.counted) within)
      ∙ (ap (λ (xs : List ℕ). xs ++ i ∷ []) (before.each text n found) ∙ sym (more text true e)))
  each_by text n false e found =
      elsewhere (find_name names x) n (λ m at same. false≢true (sym e ∙ (bytes_eq-Decides x text).1 (same_place text m n at found same)))
      ∙ (before.each text n found ∙ sym (more text false e))

  one_more : SoFar names (i + 1) (added (find_name names x) i places)
  one_more = record {
    counted = count_by (find_name names x) ∙ before.counted;
    each = λ text n found. each_by text n (bytes_eq x text) refl found;
  }

pub one_turn : (names known : List Name) (i place : ℕ) (x : Name) (old new : List (List ℕ)) → known ≡ names → place ≡ i → i < length names → x ≡ get_or names i x → new ≡ added (find_name known x) place old → SoFar names i old → SoFar names (i + 1) new
one_turn names known i place x old new same here lt is put before =
    subst (SoFar names (i + 1)) (sym (put ∙ (ap (λ (xs : List Name). added (find_name xs x) place old) same ∙ ap (λ (n : ℕ). added (find_name names x) n old) here))) (one_more names i x old lt is before)

take_all : (names : List Name) → take (length names) names ≡ names
take_all [] = refl
take_all (x ∷ names) = ap (λ (xs : List Name). x ∷ xs) (take_all names)

pub all_placed : (names : List Name) (i : ℕ) (places : List (List ℕ)) → i ≡ length names → SoFar names i places → ArePlaces names places
all_placed names i places is so_far = record {
  each = λ text n found. so_far.each text n found ∙ (ap (λ (k : ℕ). positions_from 0 (take k names) text) is ∙ ap (λ (xs : List Name). positions_from 0 xs text) (take_all names));
}
