-- A fault or want of memory, which may come in the place of any end.
use Rattle.std.proofs.Common.{◌≡◌, ◌⊎◌, inl, inr, ℕ, OnOk, List, Result, Ok, Err, sym, ◌∙◌, ap, arith}
use Rattle.p4x_io.specs.Desk.{SinkView}
use Rattle.p4x_io.specs.Files.{Says}
use Rattle.file_work.specs.declared.stop.Stop.{Stop}
use Rattle.file_work.specs.Clauses.{ComesWhere, ComesFirst}
use Rattle.file_work.specs.Phases.{Unless}
use Rattle.file_work.specs.Stops.{code_of, line_of}
use Rattle.file_work.specs.Works.{IsLoose}
use Rattle.file_work.proofs.Ends.{loose_code, not_done}

-- a status of 1 or 7, which may come in the place of any
pub comes_loose : (status code : ℕ) (P : Type 0) → (status ≡ 1) ⊎ (status ≡ 7) → (code ≡ 1 → ⊥) → (code ≡ 7 → ⊥) → ComesWhere status code P
comes_loose status code P loose not_one not_seven = ((λ is. absurd (other loose is)), (λ so. inr loose))
  where
    other : (status ≡ 1) ⊎ (status ≡ 7) → status ≡ code → ⊥
    other (inl one) is = not_one (sym is ∙ one)
    other (inr seven) is = not_seven (sym is ∙ seven)

pub first_loose : (status code : ℕ) (P Q : Type 0) → (status ≡ 1) ⊎ (status ≡ 7) → (code ≡ 1 → ⊥) → (code ≡ 7 → ⊥) → ComesFirst status code P Q
first_loose status code P Q loose not_one not_seven =
    let comes = comes_loose status code P loose not_one not_seven in
    ((λ is. inl (comes.0 is)), comes.1)

-- but for a fault or want of memory this holds
pub loose_or : (P : Type 0) (end : Result (List ℕ) Stop) → Unless P end → IsLoose end ⊎ P
loose_or P (Ok line) holds = inr holds
loose_or P (Err stop) (inl fault) = inl (inl (ap (λ x. Err x) fault))
loose_or P (Err stop) (inr (inl memory)) = inl (inr (ap (λ x. Err x) memory))
loose_or P (Err stop) (inr (inr holds)) = inr holds

pub loose_says : (end : Result (List ℕ) Stop) (status : ℕ) (before after : SinkView) → IsLoose end → Says (line_of end) (code_of end) status before after → (status ≡ 1) ⊎ (status ≡ 7)
loose_says end status before after loose says = elim says.said [
  | inl whole ↦ elim (loose_code end loose) [ inl one ↦ inl (whole.0 ∙ one) | inr seven ↦ inr (whole.0 ∙ seven) ]
  | inr cut ↦ inl cut.0
]

pub of_ok : (end : Result (List ℕ) Stop) (P : Type 0) → 0 ≡ code_of end → OnOk end P → P
of_ok (Ok line) P zero holds = holds
of_ok (Err stop) P zero holds = absurd (not_done stop zero)

pub not_loose : (status : ℕ) → (status ≡ 1) ⊎ (status ≡ 7) → (status ≡ 5) ⊎ (status ≡ 6) → ⊥
not_loose status (inl one) five = elim five [ inl x ↦ omega arith | inr x ↦ omega arith ]
not_loose status (inr seven) five = elim five [ inl x ↦ omega arith | inr x ↦ omega arith ]
