-- What the end of the work says of the status, the line and the files, for all commands.
use Rattle.std.proofs.Common.{◌≡◌, ◌⊎◌, inl, inr, ℕ, List, [], ◌∷◌, length, Option, Some, None, Result, sym, ◌∙◌, ap, subst, arith}
use Rattle.std.proofs.Math.Seq.{take-length}
use Rattle.p4x_io.specs.Desk.{DeskView, SinkView, put, said}
use Rattle.p4x_io.specs.Files.{Says}
use Rattle.file_work.specs.declared.stop.Stop.{Stop}
use Rattle.file_work.specs.Clauses.{EndsAsDue, Fronts, AsDue}
use Rattle.file_work.specs.Stops.{code_of, line_of}
use Rattle.file_work.specs.Works.{Due, Leaves, AllExact, AllPart, AllKept, IsExact, IsPart}
use Rattle.file_work.proofs.Ends.{loose_code}

-- what is exact is a front
exact_part : (old new : Option (Option (List ℕ))) (content : Option (List ℕ)) → IsExact old new content → IsPart old new content
exact_part old new None is = is
exact_part old new (Some content) is = inr (length content, is ∙ ap (put old) (sym (take-length content)))

pub all_part : (outs : List (List ℕ × Option (List ℕ))) (old new : DeskView) → AllExact outs old new → AllPart outs old new
all_part [] old new exact = tt
all_part (out ∷ outs) old new exact = (exact_part (old.told out.0) (new.told out.0) out.1 exact.0, all_part outs old new exact.1)

loose_status : (n : ℕ) (P : Type 0) → (n ≡ 1) ⊎ (n ≡ 7) → (n ≡ 1) ⊎ (n ≡ 7) ⊎ P
loose_status n P (inl x) = inl x
loose_status n P (inr x) = inr (inl x)

-- What was done with status 0: it is due, and its line was printed.
pub record IsDone (due : Due → Type 0) (old new : DeskView) (before after : SinkView) (end : Result (List ℕ) Stop) : Type 0 where
  pub what : Due
  pub due_is : due what
  pub end_is : end ≡ what.end
  pub outs : AllExact what.outs old new
  pub zero : 0 ≡ code_of end
  pub printed : after.printed ≡ said before.printed (line_of end)

module _ (outputs : List (List ℕ)) (due : Due → Type 0) (old new : DeskView) (end : Result (List ℕ) Stop) (leaves : Leaves outputs due end old new) where
  pub left_fronts : Fronts outputs due old new
  left_fronts = elim leaves [
    | inl exact ↦ inr (exact.0, exact.1, all_part exact.0.outs old new exact.3)
    | inr rest ↦ elim rest [ inl kept ↦ inl kept.1 | inr part ↦ inr part.1 ]
  ]

  pub left_ends : EndsAsDue due end
  left_ends = elim leaves [
    | inl exact ↦ inl (exact.0, exact.1, exact.2)
    | inr rest ↦ elim rest [ inl kept ↦ inr kept.0 | inr part ↦ inr part.0 ]
  ]

  as_due : AsDue due old new (code_of end)
  as_due = elim leaves [
    | inl exact ↦ inr (inr (exact.0, exact.1, ap code_of exact.2, exact.3))
    | inr rest ↦ elim rest [ inl kept ↦ loose_status _ _ (loose_code end kept.0) | inr part ↦ loose_status _ _ (loose_code end part.0) ]
  ]

  module _ (before after : SinkView) (status : ℕ) (says : Says (line_of end) (code_of end) status before after) where
    pub left_as_due : AsDue due old new status
    left_as_due = elim says.said [
      | inl whole ↦ subst (AsDue due old new) (sym whole.0) as_due
      | inr cut ↦ inl cut.0
    ]

    pub left_done : status ≡ 0 → IsDone due old new before after end
    left_done zero = elim says.said [
      | inl whole ↦ done (sym zero ∙ whole.0) whole.1 leaves
      | inr cut ↦ absurd (omega (arith, cut.0))
    ]
      where
        loose_not : 0 ≡ code_of end → (code_of end ≡ 1) ⊎ (code_of end ≡ 7) → ⊥
        loose_not none (inl one) = omega arith
        loose_not none (inr seven) = omega arith

        done : 0 ≡ code_of end → after.printed ≡ said before.printed (line_of end) → Leaves outputs due end old new → IsDone due old new before after end
        done none printed (inl exact) = record { what = exact.0; due_is = exact.1; end_is = exact.2; outs = exact.3; zero = none; printed = printed }
        done none printed (inr (inl kept)) = absurd (loose_not none (loose_code end kept.0))
        done none printed (inr (inr part)) = absurd (loose_not none (loose_code end part.0))

-- What the files hold behind calls that only read is told from before these.
module _ (old mid new : DeskView) (same : (name : List ℕ) → mid.told name ≡ old.told name) where
  exact_since : (outs : List (List ℕ × Option (List ℕ))) → AllExact outs mid new → AllExact outs old new
  exact_since [] exact = tt
  exact_since (out ∷ outs) exact = (subst (λ (t : Option (Option (List ℕ))). IsExact t (new.told out.0) out.1) (same out.0) exact.0, exact_since outs exact.1)

  part_since : (outs : List (List ℕ × Option (List ℕ))) → AllPart outs mid new → AllPart outs old new
  part_since [] part = tt
  part_since (out ∷ outs) part = (subst (λ (t : Option (Option (List ℕ))). IsPart t (new.told out.0) out.1) (same out.0) part.0, part_since outs part.1)

  kept_since : (names : List (List ℕ)) → AllKept names mid new → AllKept names old new
  kept_since [] kept = tt
  kept_since (name ∷ names) kept = (kept.0 ∙ same name, kept_since names kept.1)

  pub leaves_since : (outputs : List (List ℕ)) (due : Due → Type 0) (end : Result (List ℕ) Stop) → Leaves outputs due end mid new → Leaves outputs due end old new
  leaves_since outputs due end (inl exact) = inl (exact.0, exact.1, exact.2, exact_since exact.0.outs exact.3)
  leaves_since outputs due end (inr (inl kept)) = inr (inl (kept.0, kept_since outputs kept.1))
  leaves_since outputs due end (inr (inr part)) = inr (inr (part.0, (part.1.0, part.1.1, part_since part.1.0.outs part.1.2)))
