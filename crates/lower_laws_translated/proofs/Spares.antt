-- The names of the variables of primitives: each number has its own, which nothing else has that an action sees.
use Rattle.std.proofs.Common.{◌≡◌, ◌≢◌, ◌⊎◌, inl, inr, ℕ, zero, suc, ◌+◌, ◌<◌, ◌≤◌, ◌^◌, Bool, true, false, cond, List, [], ◌∷◌, ◌++◌, length, refl, sym, ap, ◌∙◌, subst, arith}
use Rattle.std.specs.Prelude.{codes, replicate, nat_lt}
use Rattle.std.proofs.lemmas.List.{length-append, length-replicate}
use Rattle.token_division.specs.Octets.{is_decimal, is_word}
use Rattle.std.proofs.lemmas.Bool.Decides.{nat_tests}
use Rattle.p414_syntax.specs.declared.syntax.Decl.{Decl}
use Rattle.p414_syntax.specs.Names.{Name}
use Rattle.lower_laws_names.specs.Made.{called, made, line}
use Rattle.lower_laws_names.specs.NewNames.{variable_letter, made_thing, parameter_thing}
use Rattle.lower_laws_names.proofs.Tags.{made_same}
use Rattle.lower_laws_names.proofs.Things.{made_short, apart_differ}
use Rattle.lower_laws_names.proofs.Lists.{parameter_proper}
use Rattle.lower_laws_translated.specs.Translated.{far_name, near_name, spare_name}
use Rattle.lower_laws_translated.proofs.Inner.{IsInner, called_short, made_proper, made_inner, long_inner}

-- far names

abbrev tail : ℕ → ℕ → List ℕ
tail K i = replicate K 97 ++ replicate i 98

abbrev front : List ℕ → ℕ
front [] = 0
front (x ∷ xs) = x

pub far_long : (K i : ℕ) → 65 ≤ length (far_name K i)
far_long K i = omega (arith, length-append (replicate 65 line) (tail K i), length-replicate 65 line)

cut : (xs : List ℕ) (ys zs : List ℕ) → xs ++ ys ≡ xs ++ zs → ys ≡ zs
cut [] ys zs e = e
cut (x ∷ xs) ys zs e = cut xs ys zs (cc e)

counts_same : (K L i j : ℕ) → tail K i ≡ tail L j → (K ≡ L) × (i ≡ j)
counts_same zero zero i j e = (refl, sym (length-replicate i 98) ∙ ap length e ∙ length-replicate j 98)
counts_same zero (suc L) zero j e = absurd (cc e)
counts_same zero (suc L) (suc i) j e = let one : front (98 ∷ []) ≡ front (97 ∷ []) = ap front e in absurd (omega (arith, one))
counts_same (suc K) zero i zero e = absurd (cc e)
counts_same (suc K) zero i (suc j) e = let one : front (97 ∷ []) ≡ front (98 ∷ []) = ap front e in absurd (omega (arith, one))
counts_same (suc K) (suc L) i j e = let more = counts_same K L i j (cc e) in (ap suc more.0, more.1)

far_same : (K L i j : ℕ) → far_name K i ≡ far_name L j → (K ≡ L) × (i ≡ j)
far_same K L i j e = counts_same K L i j (cut (replicate 65 line) _ _ e)

-- a name is made of its letter and number, or far

record IsNear (K i : ℕ) : Type 0 where
  pub base : Name
  pub letter : is_decimal (variable_letter + i) ≡ false
  pub word : is_word (variable_letter + i) ≡ true
  pub small : K < 2 ^ 32
  pub is : spare_name K i ≡ made (variable_letter + i) K base

form : (K i : ℕ) → IsNear K i ⊎ (spare_name K i ≡ far_name K i)
form K i = by (nat_lt K (2 ^ 32)) refl i where
  by : (b : Bool) → nat_lt K (2 ^ 32) ≡ b → (i : ℕ) → IsNear K i ⊎ (spare_name K i ≡ far_name K i)
  by false e i = inr (ap (λ b. cond b (near_name K i) (far_name K i)) e)
  by true e zero = inl (record { base = codes "got"; letter = refl; word = refl; small = grind (arith, nat_tests, e); is = ap (λ b. cond b (near_name K 0) (far_name K 0)) e })
  by true e (suc zero) = inl (record { base = codes "cut"; letter = refl; word = refl; small = grind (arith, nat_tests, e); is = ap (λ b. cond b (near_name K 1) (far_name K 1)) e })
  by true e (suc (suc zero)) = inl (record { base = codes "colour"; letter = refl; word = refl; small = grind (arith, nat_tests, e); is = ap (λ b. cond b (near_name K 2) (far_name K 2)) e })
  by true e (suc (suc (suc i))) = inr (ap (λ b. cond b (near_name K (suc (suc (suc i)))) (far_name K (suc (suc (suc i))))) e)

near_short : (K i : ℕ) (n : IsNear K i) → length (spare_name K i) ≤ 64
near_short K i n = subst (λ (z : Name). length z ≤ 64) (sym n.is) (made_short (variable_letter + i) K n.base n.small)

pub spares_same : (K L i j : ℕ) → spare_name K i ≡ spare_name L j → (K ≡ L) × (i ≡ j)
spares_same K L i j e = by (form K i) (form L j) where
  by : IsNear K i ⊎ (spare_name K i ≡ far_name K i) → IsNear L j ⊎ (spare_name L j ≡ far_name L j) → (K ≡ L) × (i ≡ j)
  by (inl a) (inl b) =
      let same = made_same (variable_letter + i) (variable_letter + j) K L a.base b.base a.letter b.letter (omega (arith, a.small)) (omega (arith, b.small)) (sym a.is ∙ e ∙ b.is) in
      (same.1, omega (arith, same.0))
  by (inl a) (inr far) = absurd (omega (arith, near_short K i a, far_long L j, ap length (e ∙ far)))
  by (inr far) (inl b) = absurd (omega (arith, near_short L j b, far_long K i, ap length (sym e ∙ far)))
  by (inr far) (inr near) = far_same K L i j (sym far ∙ e ∙ near)

pub spare_inner : (ds : List Decl) (K i : ℕ) → IsInner ds (spare_name K i)
spare_inner ds K i = by (form K i) where
  by : IsNear K i ⊎ (spare_name K i ≡ far_name K i) → IsInner ds (spare_name K i)
  by (inl a) = subst (IsInner ds) (sym a.is) (made_inner ds (variable_letter + i) K a.base a.letter a.word (λ e. omega (arith, e)) a.small)
  by (inr far) = subst (IsInner ds) (sym far) (long_inner ds (far_name K i) (far_long K i))

pub spare_apart : (ds : List Decl) (k : ℕ) (p : Name) → k < 2 ^ 32 → (K i : ℕ) → called (parameter_thing ds k p) ≢ spare_name K i
spare_apart ds k p small K i same = by (form K i) where
  by : IsNear K i ⊎ (spare_name K i ≡ far_name K i) → ⊥
  by (inl a) = apart_differ (parameter_thing ds k p) (made_thing (variable_letter + i) K a.base) (parameter_proper ds k p small) (made_proper (variable_letter + i) K a.base a.letter a.word a.small) (record { tag = λ both. omega (arith, both.0); names = λ e f. absurd (cc f) }) (same ∙ a.is)
  by (inr far) = omega (arith, called_short (parameter_thing ds k p) (parameter_proper ds k p small), far_long K i, ap length (same ∙ far))
