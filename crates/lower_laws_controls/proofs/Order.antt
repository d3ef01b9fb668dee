-- Names in order, from a list that is taken apart: those that pass a test first, and the others behind them.
use Rattle.std.proofs.Common.{◌≡◌, Bool, true, false, not, cond, List, [], ◌∷◌, ◌++◌, refl, sym, ap, ◌∙◌}
use Rattle.std.specs.Prelude.{filter, fold}
use Rattle.std.specs.Cmp.{IsTotalOrder}
use Rattle.std.specs.FinMap.{IsAntisymmetric, nat_cmp-IsAntisymmetric, slice_cmp-IsAntisymmetric}
use Rattle.std.specs.BTreeSet.{insert_key}
use Rattle.std.specs.Cmp.Lexicographic.{slice_cmp}
use Rattle.std.specs.Ordering.{nat_cmp, match_ordering, ordering_reverse}
use Rattle.std.specs.declared.cmp.Ordering.{Ordering}
use Rattle.std.specs.declared.cmp.Ordering.TheVariants.{Less, Equal, Greater}
use Rattle.std.proofs.lemmas.Cmp.{nat_list_cmp_total}
use Rattle.std.specs.Str.{bytes_eq}
use Rattle.std.proofs.lemmas.Slice.Eq.{bytes_eq-Decides}
use Rattle.p414_syntax.specs.Names.{Name}
use Rattle.p414_sem.specs.Operations.{in_order}
use Rattle.lower_laws_controls.specs.Listing.{each_once}

module _ {K : Type 0} (R : K → K → Ordering) (o : IsTotalOrder R) (same : IsAntisymmetric R) where
  abbrev put : List K → K → List K
  put ks k = insert_key R ks k

  back : (x y : K) (r : Ordering) → R x y ≡ r → R y x ≡ ordering_reverse r
  back x y r e = o.antisymm y x ∙ ap ordering_reverse e

  -- two before the same others
  two : (r : Ordering) (a b : K) (rest : List K) → (r ≡ Equal → b ≡ a) → match_ordering r (b ∷ a ∷ rest) (a ∷ rest) (a ∷ b ∷ rest) ≡ match_ordering (ordering_reverse r) (a ∷ b ∷ rest) (b ∷ rest) (b ∷ a ∷ rest)
  two Less a b rest e = refl
  two Equal a b rest e = ap (λ k. k ∷ rest) (sym (e refl))
  two Greater a b rest e = refl

  commutes : (ks : List K) (a b : K) → put (put ks a) b ≡ put (put ks b) a
  commutes [] a b = two (R b a) a b [] (same b a) ∙ ap (λ r. match_ordering r (a ∷ b ∷ []) (b ∷ []) (b ∷ a ∷ [])) (sym (o.antisymm a b))
  commutes (x ∷ xs) a b = by (R a x) (R b x) refl refl (commutes xs a b) where
    by : (p q : Ordering) → R a x ≡ p → R b x ≡ q → put (put xs a) b ≡ put (put xs b) a → put (match_ordering p (a ∷ x ∷ xs) (x ∷ xs) (x ∷ put xs a)) b ≡ put (match_ordering q (b ∷ x ∷ xs) (x ∷ xs) (x ∷ put xs b)) a
    by Less Less e f rest =
        rw (e, f) (two (R b a) a b (x ∷ xs) (same b a) ∙ ap (λ r. match_ordering r (a ∷ b ∷ x ∷ xs) (b ∷ x ∷ xs) (b ∷ a ∷ x ∷ xs)) (sym (o.antisymm a b)))
    by Less Equal e f rest =
        let g : R b a ≡ Greater = ap (λ k. R k a) (same b x f) ∙ back a x Less e in rw (g, e, f) refl
    by Less Greater e f rest =
        let g : R b a ≡ Greater = back a b Less (o.trans a x b e (back b x Greater f)) in rw (g, e, f) refl
    by Equal Less e f rest =
        let g : R a b ≡ Greater = ap (λ k. R k b) (same a x e) ∙ back b x Less f in rw (g, e, f) refl
    by Equal Equal e f rest = rw (e, f) refl
    by Equal Greater e f rest = rw (e, f) refl
    by Greater Less e f rest =
        let g : R a b ≡ Greater = back b a Less (o.trans b x a f (back a x Greater e)) in rw (g, e, f) refl
    by Greater Equal e f rest = rw (e, f) refl
    by Greater Greater e f rest = rw (e, f) (ap (λ l. x ∷ l) rest)

  put_first : (before xs : List K) (y : K) (ys : List K) → fold put before (xs ++ y ∷ ys) ≡ fold put (put before y) (xs ++ ys)
  put_first before [] y ys = refl
  put_first before (x ∷ xs) y ys = put_first (put before x) xs y ys ∙ ap (λ l. fold put l (xs ++ ys)) (commutes before x y)

  pub parted : (p : K → Bool) (before names : List K) → fold put before (filter p names ++ filter (λ k. not (p k)) names) ≡ fold put before names
  parted p before [] = refl
  parted p before (x ∷ names) = by (p x) (parted p (put before x) names) where
    by : (b : Bool) → fold put (put before x) (filter p names ++ filter (λ k. not (p k)) names) ≡ fold put (put before x) names → fold put before (cond b (x ∷ filter p names) (filter p names) ++ cond (not b) (x ∷ filter (λ k. not (p k)) names) (filter (λ k. not (p k)) names)) ≡ fold put (put before x) names
    by true rest = rest
    by false rest = put_first before (filter p names) x (filter (λ k. not (p k)) names) ∙ rest

  -- what is there already isn't put again

  itself : (a : K) → R a a ≡ Equal
  itself a = by (R a a) refl where
    by : (r : Ordering) → R a a ≡ r → R a a ≡ Equal
    by Equal e = e
    by Less e = let g : Less ≡ Greater = sym e ∙ back a a Less e in absurd (cc g)
    by Greater e = let g : Greater ≡ Less = sym e ∙ back a a Greater e in absurd (cc g)

  again : (ks : List K) (a : K) → put (put ks a) a ≡ put ks a
  again [] a = ap (λ r. match_ordering r (a ∷ a ∷ []) (a ∷ []) (a ∷ put [] a)) (itself a)
  again (x ∷ xs) a = by (R a x) refl (again xs a) where
    by : (p : Ordering) → R a x ≡ p → put (put xs a) a ≡ put xs a → put (match_ordering p (a ∷ x ∷ xs) (x ∷ xs) (x ∷ put xs a)) a ≡ match_ordering p (a ∷ x ∷ xs) (x ∷ xs) (x ∷ put xs a)
    by Less e rest = ap (λ r. match_ordering r (a ∷ a ∷ x ∷ xs) (a ∷ x ∷ xs) (a ∷ put (x ∷ xs) a)) (itself a)
    by Equal e rest = ap (λ r. match_ordering r (a ∷ x ∷ xs) (x ∷ xs) (x ∷ put xs a)) e
    by Greater e rest = ap (λ r. match_ordering r (a ∷ x ∷ put xs a) (x ∷ put xs a) (x ∷ put (put xs a) a)) e ∙ ap (λ l. x ∷ l) rest

  pub absorbed : (eq : K → K → Bool) → ((a b : K) → eq a b ≡ true → a ≡ b) → (x : K) (before ys : List K) → fold put (put before x) (filter (λ y. not (eq y x)) ys) ≡ fold put (put before x) ys
  absorbed eq tells x before [] = refl
  absorbed eq tells x before (y ∷ ys) = by (eq y x) refl (λ l. absorbed eq tells x l ys) where
    by : (b : Bool) → eq y x ≡ b → ((l : List K) → fold put (put l x) (filter (λ y. not (eq y x)) ys) ≡ fold put (put l x) ys) → fold put (put before x) (cond (not b) (y ∷ filter (λ y. not (eq y x)) ys) (filter (λ y. not (eq y x)) ys)) ≡ fold put (put (put before x) y) ys
    by true e more = more before ∙ ap (λ l. fold put l ys) (sym (ap (put (put before x)) (tells y x e) ∙ again before x))
    by false e more =
        ap (λ l. fold put l (filter (λ y. not (eq y x)) ys)) (commutes before x y) ∙ more (put before y) ∙ ap (λ l. fold put l ys) (sym (commutes before x y))

-- names that stand there more than once
once : (before names : List Name) → fold (insert_key (slice_cmp nat_cmp)) before (each_once names) ≡ fold (insert_key (slice_cmp nat_cmp)) before names
once before [] = refl
once before (x ∷ names) =
    absorbed (slice_cmp nat_cmp) nat_list_cmp_total (slice_cmp-IsAntisymmetric nat_cmp-IsAntisymmetric) bytes_eq (λ a b e. (bytes_eq-Decides a b).0 e) x before (each_once names)
    ∙ once (insert_key (slice_cmp nat_cmp) before x) names

pub in_order_once : (names : List Name) → in_order (each_once names) ≡ in_order names
in_order_once names = once [] names

pub in_order_parted : (p : Name → Bool) (names : List Name) → in_order (filter p names ++ filter (λ k. not (p k)) names) ≡ in_order names
in_order_parted p names = parted (slice_cmp nat_cmp) nat_list_cmp_total (slice_cmp-IsAntisymmetric nat_cmp-IsAntisymmetric) p [] names
