-- The work of a command ends in one way only, so each status comes exactly where its cause holds.
use Rattle.std.proofs.Common.{◌≡◌, ◌⊎◌, inl, inr, ℕ, Option, sym, ◌∙◌, ap, subst}
use Rattle.file_work.specs.declared.stop.Stop.{Stop}
use Rattle.file_work.specs.Clauses.{ComesWhere}
use Rattle.file_work.proofs.Ends.{code_at}

-- `Comes` says where the work stops, if it does, and `CauseOf` which cause a status has.
module _ (Comes : Option Stop → Type 0) (CauseOf : ℕ → Type 0) where
  -- the work ends with this status
  abbrev pub Ends : ℕ → Type 0
  Ends code = (end : Option Stop) × Comes end × (code ≡ code_at end)

  -- what a call knows of its status
  abbrev pub Known : ℕ → Type 0
  Known status = (status ≡ 1) ⊎ (status ≡ 7) ⊎ Ends status

  -- a status other than 1 and 7 comes exactly where its cause holds, since no two causes hold at once
  pub comes_where : ((a b : Option Stop) → Comes a → Comes b → a ≡ b) → ((end : Option Stop) → Comes end → CauseOf (code_at end))
      → (status code : ℕ) → (code ≡ 1 → ⊥) → (code ≡ 7 → ⊥) → Known status → (CauseOf code → Ends code) → ComesWhere status code (CauseOf code)
  comes_where once cause_of status code not_one not_seven known ends = (forth known, back known)
    where
      forth : Known status → status ≡ code → CauseOf code
      forth (inl one) is = absurd (not_one (sym is ∙ one))
      forth (inr (inl seven)) is = absurd (not_seven (sym is ∙ seven))
      forth (inr (inr here)) is = subst (λ (n : ℕ). CauseOf n) (sym here.2 ∙ is) (cause_of here.0 here.1)

      back : Known status → CauseOf code → (status ≡ code) ⊎ (status ≡ 1) ⊎ (status ≡ 7)
      back (inl one) cause = inr (inl one)
      back (inr (inl seven)) cause = inr (inr seven)
      back (inr (inr here)) cause =
          let due : Ends code = ends cause in
          inl (here.2 ∙ ap code_at (once here.0 due.0 here.1 due.1) ∙ sym due.2)
