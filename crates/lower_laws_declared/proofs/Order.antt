-- Names in order stand each once, so that a name has one place.
use Rattle.std.proofs.Common.{◌≡◌, ◌≢◌, ℕ, zero, suc, ◌<◌, Bool, true, false, cond, Some, List, [], ◌∷◌, length, get_or, refl, ap, ◌∙◌, subst, arith}
use Rattle.std.specs.Prelude.{fold, position, option_map}
use Rattle.std.specs.BTreeSet.{insert_key}
use Rattle.std.specs.Cmp.{IsTotalOrder}
use Rattle.std.specs.Cmp.Lexicographic.{slice_cmp}
use Rattle.std.specs.Ordering.{nat_cmp, match_ordering, ordering_reverse}
use Rattle.std.specs.declared.cmp.Ordering.{Ordering}
use Rattle.std.specs.declared.cmp.Ordering.TheVariants.{Less, Equal, Greater}
use Rattle.std.specs.Str.{bytes_eq}
use Rattle.std.proofs.lemmas.Cmp.{nat_list_cmp_total}
use Rattle.std.proofs.lemmas.Slice.Eq.{bytes_eq-Decides}
use Rattle.p414_syntax.specs.Names.{Name}
use Rattle.p414_sem.specs.Operations.{in_order}
use Rattle.lower_laws_names.proofs.Objects.{next_place}

module _ {K : Type 0} (R : K → K → Ordering) (o : IsTotalOrder R) where
  back : (x y : K) (r : Ordering) → R x y ≡ r → R y x ≡ ordering_reverse r
  back x y r e = o.antisymm y x ∙ ap ordering_reverse e

  -- all of these are behind
  abbrev pub IsBefore : K → List K → Type 0
  IsBefore x [] = Unit {0}
  IsBefore x (y ∷ ys) = (R x y ≡ Less) × IsBefore x ys

  abbrev pub IsSorted : List K → Type 0
  IsSorted [] = Unit {0}
  IsSorted (x ∷ xs) = IsBefore x xs × IsSorted xs

  still_before : (k x : K) (ys : List K) → R k x ≡ Less → IsBefore x ys → IsBefore k ys
  still_before k x [] lt all = tt
  still_before k x (y ∷ ys) lt all = (o.trans k x y lt all.0, still_before k x ys lt all.1)

  before_put : (x k : K) (ys : List K) → R x k ≡ Less → IsBefore x ys → IsBefore x (insert_key R ys k)
  before_put x k [] lt all = (lt, tt)
  before_put x k (y ∷ ys) lt all = by (R k y) (before_put x k ys lt all.1) where
    by : (r : Ordering) → IsBefore x (insert_key R ys k) → IsBefore x (match_ordering r (k ∷ y ∷ ys) (y ∷ ys) (y ∷ insert_key R ys k))
    by Less rest = (lt, all)
    by Equal rest = all
    by Greater rest = (all.0, rest)

  sorted_put : (k : K) (xs : List K) → IsSorted xs → IsSorted (insert_key R xs k)
  sorted_put k [] sorted = (tt, tt)
  sorted_put k (x ∷ xs) sorted = by (R k x) refl (sorted_put k xs sorted.1) where
    by : (r : Ordering) → R k x ≡ r → IsSorted (insert_key R xs k) → IsSorted (match_ordering r (k ∷ x ∷ xs) (x ∷ xs) (x ∷ insert_key R xs k))
    by Less e rest = ((e, still_before k x xs e sorted.0), sorted)
    by Equal e rest = sorted
    by Greater e rest = (before_put x k xs (back k x Greater e) sorted.0, rest)

  pub sorted_all : (before names : List K) → IsSorted before → IsSorted (fold (insert_key R) before names)
  sorted_all before [] sorted = sorted
  sorted_all before (n ∷ names) sorted = sorted_all (insert_key R before n) names (sorted_put n before sorted)

  before_at : (x : K) (ys : List K) (j : ℕ) (d : K) → IsBefore x ys → j < length ys → R x (get_or ys j d) ≡ Less
  before_at x [] j d all lt = absurd (omega (arith, lt))
  before_at x (y ∷ ys) zero d all lt = all.0
  before_at x (y ∷ ys) (suc j) d all lt = before_at x ys j d all.1 (omega (arith, lt))

  before_differs : (x y : K) → R x y ≡ Less → y ≢ x
  before_differs x y lt same =
      let e : R x x ≡ Less = subst (λ z. R x z ≡ Less) same lt in absurd (cc (e, back x x Less e))

-- names

abbrev order : Name → Name → Ordering
order = slice_cmp nat_cmp

place_in : (names : List Name) (j : ℕ) → IsSorted order nat_list_cmp_total names → j < length names → position (bytes_eq (get_or names j [])) names ≡ Some j
place_in [] j sorted lt = absurd (omega (arith, lt))
place_in (x ∷ xs) zero sorted lt = next_place [] (bytes_eq x) x xs ∙ ap (λ (b : Bool). cond b (Some 0) (option_map (λ (k : ℕ). suc k) (position (bytes_eq x) xs))) ((bytes_eq-Decides x x).1 refl)
place_in (x ∷ xs) (suc j) sorted lt =
    let n : Name = get_or xs j [] in
    next_place [] (bytes_eq n) x xs
    ∙ ap (λ (b : Bool). cond b (Some 0) (option_map (λ (k : ℕ). suc k) (position (bytes_eq n) xs))) (other n (before_differs order nat_list_cmp_total x n (before_at order nat_list_cmp_total x xs j [] sorted.0 (omega (arith, lt)))))
    ∙ ap (option_map (λ (k : ℕ). suc k)) (place_in xs j sorted.1 (omega (arith, lt)))
  where
    other : (n : Name) → n ≢ x → bytes_eq n x ≡ false
    other n apart = by (bytes_eq n x) refl where
      by : (b : Bool) → bytes_eq n x ≡ b → b ≡ false
      by false e = refl
      by true e = absurd (apart ((bytes_eq-Decides n x).0 e))

pub place_is : (names : List Name) (j : ℕ) → j < length (in_order names) → position (bytes_eq (get_or (in_order names) j [])) (in_order names) ≡ Some j
place_is names j lt = place_in (in_order names) j (sorted_all order nat_list_cmp_total [] names tt) lt
