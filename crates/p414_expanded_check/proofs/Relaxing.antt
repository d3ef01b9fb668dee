-- Which numbers are come to by passes, one after another.
use Rattle.std.proofs.Common.{◌≡◌, ℕ, suc, zero, ◌<◌, ◌⊎◌, Bool, true, false, cond, List, [], ◌∷◌, ◌++◌, length, set, replicate, inl, inr, refl, sym, ap, ◌∙◌, subst}
use Rattle.std.proofs.lemmas.List.{get_or-set_same}
use Rattle.p414_expanded_check.specs.declared.flow.Pass.{Pass}
use Rattle.p414_expanded_check.specs.internal.Passing.{In}
use Rattle.p414_expanded_check.specs.internal.Flow.{is_set, with_pass, with_passes}

-- one number is set

set_then : (flags : List Bool) (t x : ℕ) → is_set (set flags t true) x ≡ true → (x ≡ t) ⊎ (is_set flags x ≡ true)
set_then [] t x e = inr e
set_then (b ∷ flags) zero zero e = inl refl
set_then (b ∷ flags) zero (suc x) e = inr e
set_then (b ∷ flags) (suc t) zero e = inr e
set_then (b ∷ flags) (suc t) (suc x) e = further (set_then flags t x e) where
  further : (x ≡ t) ⊎ (is_set flags x ≡ true) → (suc x ≡ suc t) ⊎ (is_set flags x ≡ true)
  further (inl s) = inl (ap suc s)
  further (inr h) = inr h

set_kept : (flags : List Bool) (t x : ℕ) → is_set flags x ≡ true → is_set (set flags t true) x ≡ true
set_kept [] t x e = e
set_kept (b ∷ flags) zero zero e = refl
set_kept (b ∷ flags) zero (suc x) e = e
set_kept (b ∷ flags) (suc t) zero e = e
set_kept (b ∷ flags) (suc t) (suc x) e = set_kept flags t x e

set_length : (flags : List Bool) (t : ℕ) → length (set flags t true) ≡ length flags
set_length [] t = refl
set_length (b ∷ flags) zero = refl
set_length (b ∷ flags) (suc t) = ap suc (set_length flags t)

none_set : (n x : ℕ) → is_set (replicate n false) x ≡ true → ⊥
none_set zero x e = cc e
none_set (suc n) zero e = cc e
none_set (suc n) (suc x) e = none_set n x e

-- at first one number is set

pub only : (n t x : ℕ) → is_set (set (replicate n false) t true) x ≡ true → x ≡ t
only n t x e = first (set_then (replicate n false) t x e) where
  first : (x ≡ t) ⊎ (is_set (replicate n false) x ≡ true) → x ≡ t
  first (inl s) = s
  first (inr h) = absurd (none_set n x h)

replicate_length : (n : ℕ) → length (replicate n false) ≡ n
replicate_length zero = refl
replicate_length (suc n) = ap suc (replicate_length n)

pub first_length : (n t : ℕ) → length (set (replicate n false) t true) ≡ n
first_length n t = set_length (replicate n false) t ∙ replicate_length n

pub first_set : (n t : ℕ) → t < n → is_set (set (replicate n false) t true) t ≡ true
first_set n t h = get_or-set_same (replicate n false) t true false (subst (λ k. t < k) (sym (replicate_length n)) h)

-- one pass

pass_by : (flags : List Bool) (t x : ℕ) (b : Bool) → is_set (cond b (set flags t true) flags) x ≡ true → ((x ≡ t) × (b ≡ true)) ⊎ (is_set flags x ≡ true)
pass_by flags t x false e = inr e
pass_by flags t x true e = with_truth (set_then flags t x e) where
  with_truth : (x ≡ t) ⊎ (is_set flags x ≡ true) → ((x ≡ t) × (true ≡ true)) ⊎ (is_set flags x ≡ true)
  with_truth (inl s) = inl (s, refl)
  with_truth (inr h) = inr h

kept_by : (flags : List Bool) (t x : ℕ) (b : Bool) → is_set flags x ≡ true → is_set (cond b (set flags t true) flags) x ≡ true
kept_by flags t x false e = e
kept_by flags t x true e = set_kept flags t x e

length_by : (flags : List Bool) (t : ℕ) (b : Bool) → length (cond b (set flags t true) flags) ≡ length flags
length_by flags t false = refl
length_by flags t true = set_length flags t

hit_by : (flags : List Bool) (t : ℕ) (b : Bool) → b ≡ true → t < length flags → is_set (cond b (set flags t true) flags) t ≡ true
hit_by flags t false e h = absurd (cc e)
hit_by flags t true e h = get_or-set_same flags t true false h

-- all passes

pub passes_length : (flags : List Bool) (passes : List Pass) → length (with_passes flags passes) ≡ length flags
passes_length flags [] = refl
passes_length flags (e ∷ rest) = passes_length (with_pass flags e) rest ∙ length_by flags e.to (is_set flags e.from)

pub grows : (passes : List Pass) (flags : List Bool) (x : ℕ) → is_set flags x ≡ true → is_set (with_passes flags passes) x ≡ true
grows [] flags x h = h
grows (e ∷ rest) flags x h = grows rest (with_pass flags e) x (kept_by flags e.to x (is_set flags e.from) h)

pub hits : (passes : List Pass) (flags : List Bool) (e : Pass) → In e passes → is_set flags e.from ≡ true → e.to < length flags → is_set (with_passes flags passes) e.to ≡ true
hits [] flags e m h within = absurd m
hits (f ∷ rest) flags e (inl s) h within =
    grows rest (with_pass flags f) e.to
    (subst (λ (g : Pass). is_set (with_pass flags g) e.to ≡ true) s (hit_by flags e.to (is_set flags e.from) h within))
hits (f ∷ rest) flags e (inr m) h within =
    hits rest (with_pass flags f) e m (kept_by flags f.to e.from (is_set flags f.from) h) (subst (λ n. e.to < n) (sym (length_by flags f.to (is_set flags f.from))) within)

pub along : (Good : ℕ → Type 0) (passes : List Pass) (flags : List Bool) → ((x : ℕ) → is_set flags x ≡ true → Good x) → ((e : Pass) → In e passes → Good e.from → Good e.to) → (x : ℕ) → is_set (with_passes flags passes) x ≡ true → Good x
along Good [] flags good step x h = good x h
along Good (e ∷ rest) flags good step x h =
    along Good rest (with_pass flags e) (λ y k. by_pass y (pass_by flags e.to y (is_set flags e.from) k)) (λ f m. step f (inr m)) x h where
      by_pass : (y : ℕ) → ((y ≡ e.to) × (is_set flags e.from ≡ true)) ⊎ (is_set flags y ≡ true) → Good y
      by_pass y (inl (s, t)) = subst Good (sym s) (step e (inl refl) (good e.from t))
      by_pass y (inr k) = good y k

pub passes_append : (flags : List Bool) (first second : List Pass) → with_passes flags (first ++ second) ≡ with_passes (with_passes flags first) second
passes_append flags [] second = refl
passes_append flags (e ∷ first) second = passes_append (with_pass flags e) first second
