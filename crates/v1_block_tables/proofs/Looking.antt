-- What is found by its number.
use Rattle.std.proofs.Common.{◌≡◌, ℕ, zero, suc, List, [], ◌∷◌, map, All, slice_get, slice_index_or, Some, None, refl, sym, ap, subst, arith}

pub index_none : {X Y : Type 0} (f : X → Y) (xs : List X) (n : ℕ) (d : Y) → None ≡ slice_get xs n → slice_index_or (map f xs) n d ≡ d
index_none f [] n d none = refl
index_none f (x ∷ xs) zero d none = absurd (cc none)
index_none f (x ∷ xs) (suc n) d none = index_none f xs n d none

pub index_some : {X Y : Type 0} (f : X → Y) (xs : List X) (n : ℕ) (x : X) (d : Y) → Some x ≡ slice_get xs n → slice_index_or (map f xs) n d ≡ f x
index_some f [] n x d some = absurd (cc some)
index_some f (y ∷ xs) zero x d some = let same : x ≡ y = cc some in ap f (sym same)
index_some f (y ∷ xs) (suc n) x d some = index_some f xs n x d some

pub own_none : {X : Type 0} (xs : List X) (n : ℕ) (d : X) → None ≡ slice_get xs n → slice_index_or xs n d ≡ d
own_none [] n d none = refl
own_none (x ∷ xs) zero d none = absurd (cc none)
own_none (x ∷ xs) (suc n) d none = own_none xs n d none

pub own_some : {X : Type 0} (xs : List X) (n : ℕ) (x d : X) → Some x ≡ slice_get xs n → slice_index_or xs n d ≡ x
own_some [] n x d some = absurd (cc some)
own_some (y ∷ xs) zero x d some = let same : x ≡ y = cc some in sym same
own_some (y ∷ xs) (suc n) x d some = own_some xs n x d some

pub all_at : {X : Type 0} (P : X → Type 0) (xs : List X) (n : ℕ) (x : X) → Some x ≡ slice_get xs n → All P xs → P x
all_at P [] n x some all = absurd (cc some)
all_at P (y ∷ xs) zero x some all = let same : x ≡ y = cc some in subst P (sym same) (all 0 y (omega arith))
all_at P (y ∷ xs) (suc n) x some all = all_at P xs n x some (λ k d lt. all (suc k) d (omega (arith, lt)))
