-- The ends of the work by their statuses.
use Rattle.std.proofs.Common.{◌≡◌, ◌⊎◌, inl, inr, ℕ, List, Option, Some, None, Result, Ok, Err, refl, ap, arith}
use Rattle.p4x_fault.specs.declared.Fault.{Fault as Refusal}
use Rattle.file_work.specs.declared.stop.Limited.{Limited}
use Rattle.file_work.specs.declared.stop.Stop.{Stop}
use Rattle.file_work.specs.declared.stop.Stop.TheVariants.{Fault, Usage, Program, Judged, Unfit, Refused, Limit, Memory, Text}
use Rattle.file_work.specs.Stops.{code_of, stop_code}
use Rattle.file_work.specs.Works.{IsLoose}

-- what stops the work, if anything does
abbrev pub stop_in : Result (List ℕ) Stop → Option Stop
stop_in (Ok line) = None
stop_in (Err stop) = Some stop

-- the status that comes of what stops the work, if anything does
abbrev pub code_at : Option Stop → ℕ
code_at None = 0
code_at (Some stop) = stop_code stop

pub code_stop : (end : Result (List ℕ) Stop) → code_of end ≡ code_at (stop_in end)
code_stop (Ok line) = refl
code_stop (Err stop) = refl

-- a stop has another status than 0
pub not_done : (stop : Stop) → 0 ≡ stop_code stop → ⊥
not_done Fault is = omega arith
not_done Usage is = omega arith
not_done Program is = omega arith
not_done (Judged fault) is = omega arith
not_done (Unfit fault) is = omega arith
not_done (Text fault) is = omega arith
not_done (Refused fault) is = omega arith
not_done (Limit file) is = omega arith
not_done Memory is = omega arith

-- how the work ended, from its status
pub is_fault : (end : Result (List ℕ) Stop) → code_of end ≡ 1 → end ≡ Err Fault
is_fault (Ok line) is = absurd (omega arith)
is_fault (Err Fault) is = refl
is_fault (Err Usage) is = absurd (omega arith)
is_fault (Err Program) is = absurd (omega arith)
is_fault (Err (Judged fault)) is = absurd (omega arith)
is_fault (Err (Unfit fault)) is = absurd (omega arith)
is_fault (Err (Text fault)) is = absurd (omega arith)
is_fault (Err (Refused fault)) is = absurd (omega arith)
is_fault (Err (Limit file)) is = absurd (omega arith)
is_fault (Err Memory) is = absurd (omega arith)

pub is_usage : (end : Result (List ℕ) Stop) → code_of end ≡ 2 → end ≡ Err Usage
is_usage (Ok line) is = absurd (omega arith)
is_usage (Err Fault) is = absurd (omega arith)
is_usage (Err Usage) is = refl
is_usage (Err Program) is = absurd (omega arith)
is_usage (Err (Judged fault)) is = absurd (omega arith)
is_usage (Err (Unfit fault)) is = absurd (omega arith)
is_usage (Err (Text fault)) is = absurd (omega arith)
is_usage (Err (Refused fault)) is = absurd (omega arith)
is_usage (Err (Limit file)) is = absurd (omega arith)
is_usage (Err Memory) is = absurd (omega arith)

-- the program isn't taken, for whatever reason
abbrev pub RefusesProgram : Result (List ℕ) Stop → Type 0
RefusesProgram end = (end ≡ Err Program) ⊎ ((fault : Refusal) × (end ≡ Err (Judged fault)))

pub is_program : (end : Result (List ℕ) Stop) → code_of end ≡ 3 → RefusesProgram end
is_program (Ok line) is = absurd (omega arith)
is_program (Err Fault) is = absurd (omega arith)
is_program (Err Usage) is = absurd (omega arith)
is_program (Err Program) is = inl refl
is_program (Err (Judged fault)) is = inr (fault, refl)
is_program (Err (Unfit fault)) is = absurd (omega arith)
is_program (Err (Text fault)) is = absurd (omega arith)
is_program (Err (Refused fault)) is = absurd (omega arith)
is_program (Err (Limit file)) is = absurd (omega arith)
is_program (Err Memory) is = absurd (omega arith)

pub is_unfit : (end : Result (List ℕ) Stop) → code_of end ≡ 4 → (fault : Refusal) × (end ≡ Err (Unfit fault))
is_unfit (Ok line) is = absurd (omega arith)
is_unfit (Err Fault) is = absurd (omega arith)
is_unfit (Err Usage) is = absurd (omega arith)
is_unfit (Err Program) is = absurd (omega arith)
is_unfit (Err (Judged fault)) is = absurd (omega arith)
is_unfit (Err (Unfit fault)) is = (fault, refl)
is_unfit (Err (Text fault)) is = absurd (omega arith)
is_unfit (Err (Refused fault)) is = absurd (omega arith)
is_unfit (Err (Limit file)) is = absurd (omega arith)
is_unfit (Err Memory) is = absurd (omega arith)

pub is_refused : (end : Result (List ℕ) Stop) → code_of end ≡ 5 → (fault : Refusal) × (end ≡ Err (Refused fault))
is_refused (Ok line) is = absurd (omega arith)
is_refused (Err Fault) is = absurd (omega arith)
is_refused (Err Usage) is = absurd (omega arith)
is_refused (Err Program) is = absurd (omega arith)
is_refused (Err (Judged fault)) is = absurd (omega arith)
is_refused (Err (Unfit fault)) is = absurd (omega arith)
is_refused (Err (Text fault)) is = absurd (omega arith)
is_refused (Err (Refused fault)) is = (fault, refl)
is_refused (Err (Limit file)) is = absurd (omega arith)
is_refused (Err Memory) is = absurd (omega arith)

pub is_limit : (end : Result (List ℕ) Stop) → code_of end ≡ 6 → (file : Limited) × (end ≡ Err (Limit file))
is_limit (Ok line) is = absurd (omega arith)
is_limit (Err Fault) is = absurd (omega arith)
is_limit (Err Usage) is = absurd (omega arith)
is_limit (Err Program) is = absurd (omega arith)
is_limit (Err (Judged fault)) is = absurd (omega arith)
is_limit (Err (Unfit fault)) is = absurd (omega arith)
is_limit (Err (Text fault)) is = absurd (omega arith)
is_limit (Err (Refused fault)) is = absurd (omega arith)
is_limit (Err (Limit file)) is = (file, refl)
is_limit (Err Memory) is = absurd (omega arith)

pub is_text : (end : Result (List ℕ) Stop) → code_of end ≡ 8 → (fault : Refusal) × (end ≡ Err (Text fault))
is_text (Ok line) is = absurd (omega arith)
is_text (Err Fault) is = absurd (omega arith)
is_text (Err Usage) is = absurd (omega arith)
is_text (Err Program) is = absurd (omega arith)
is_text (Err (Judged fault)) is = absurd (omega arith)
is_text (Err (Unfit fault)) is = absurd (omega arith)
is_text (Err (Refused fault)) is = absurd (omega arith)
is_text (Err (Limit file)) is = absurd (omega arith)
is_text (Err Memory) is = absurd (omega arith)
is_text (Err (Text fault)) is = (fault, refl)

-- a loose end has status 1 or 7
pub loose_code : (end : Result (List ℕ) Stop) → IsLoose end → (code_of end ≡ 1) ⊎ (code_of end ≡ 7)
loose_code end (inl x) = inl (ap code_of x)
loose_code end (inr x) = inr (ap code_of x)
