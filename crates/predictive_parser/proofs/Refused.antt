-- Where tokens are refused: at one place, and they spell nothing then.
use Rattle.std.proofs.Common.{◌≡◌, ◌⊎◌, ℕ, zero, suc, ◌≤◌, ◌<◌, List, [], ◌∷◌, ◌++◌, length, take, refl, ap, ◌∙◌, subst, inl, inr, arith, append_assoc}
use Rattle.predictive_parser.specs.Answers.{Begins, IsRefusedAt}

-- tokens begin with their first ones
rest : {T : Type 0} (n : ℕ) (tokens : List T) → (more : List T) × (tokens ≡ take n tokens ++ more)
rest zero tokens = (tokens, refl)
rest (suc n) [] = ([], refl)
rest (suc n) (token ∷ tokens) = let r = rest n tokens in (r.0, ap (λ ts. token ∷ ts) r.1)

-- and the first of them with the first of those
front : {T : Type 0} (n m : ℕ) (tokens : List T) → n ≤ m → (more : List T) × (take m tokens ≡ take n tokens ++ more)
front zero m tokens h = (take m tokens, refl)
front (suc n) zero tokens h = absurd (omega (arith, h))
front (suc n) (suc m) [] h = ([], refl)
front (suc n) (suc m) (token ∷ tokens) h = let r = front n m tokens (omega (arith, h)) in (r.0, ap (λ ts. token ∷ ts) r.1)

order : (a b : ℕ) → (a ≡ b) ⊎ ((a < b) ⊎ (b < a))
order zero zero = inl refl
order zero (suc b) = inr (inl (omega (arith)))
order (suc a) zero = inr (inr (omega (arith)))
order (suc a) (suc b) = elim (order a b) [ inl e ↦ inl (ap suc e) | inr s ↦ elim s [ inl h ↦ inr (inl (omega (arith, h))) | inr h ↦ inr (inr (omega (arith, h))) ] ]

module _ {V T : Type 0} (Spells : V → List T → Type 0) where
  begins_less : (tokens : List T) (n m : ℕ) → n ≤ m → Begins Spells (take m tokens) → Begins Spells (take n tokens)
  begins_less tokens n m h b =
      let r = front n m tokens h in
      (r.0 ++ b.0, b.1, subst (Spells b.1) (ap (λ ts. ts ++ b.0) r.1 ∙ append_assoc (take n tokens) r.0 b.0) b.2)

  within : (tokens : List T) (at : ℕ) → IsRefusedAt Spells tokens at → at ≤ length tokens
  within tokens at r = elim r.behind [ inl h ↦ omega (arith, h.0) | inr h ↦ omega (arith, h.0) ]

  earlier : (tokens : List T) (at other : ℕ) → IsRefusedAt Spells tokens at → IsRefusedAt Spells tokens other → at < other → ⊥
  earlier tokens at other r q h =
      elim r.behind [ inl k ↦ k.1 (begins_less tokens (suc at) other (omega (arith, h)) q.before) | inr k ↦ let w = within tokens other q in omega (arith, h, k.0, w) ]

  -- refused tokens spell nothing
  pub spells_never : (tokens : List T) (at : ℕ) → IsRefusedAt Spells tokens at → (value : V) → Spells value tokens → ⊥
  spells_never tokens at r value h =
      elim r.behind [ inl k ↦ let w = rest (suc at) tokens in k.1 (w.0, value, subst (Spells value) w.1 h) | inr k ↦ k.1 value h ]

  -- tokens are refused at one place
  pub refused_once : (tokens : List T) (at other : ℕ) → IsRefusedAt Spells tokens at → IsRefusedAt Spells tokens other → at ≡ other
  refused_once tokens at other r q =
      elim (order at other) [ inl e ↦ e | inr s ↦ elim s [ inl h ↦ absurd (earlier tokens at other r q h) | inr h ↦ absurd (earlier tokens other at q r h) ] ]
