-- What a call of any command says of its status, its line and its files (this project's own).
use Rattle.std.specs.Prelude.{◌≡◌, ◌⊎◌, ℕ, List, Result}
use Rattle.p4x_io.specs.Desk.{DeskView, SinkView, Rose, NoneIs}
use Rattle.p4x_io.specs.Files.{Says}
use Rattle.file_work.specs.declared.stop.Stop.{Stop}
use Rattle.file_work.specs.Stops.{line_of, code_of}
use Rattle.file_work.specs.Works.{Due, AllExact, AllPart, AllKept, IsLoose, DeskRose}

-- The work ended so, and then the line of its end was tried, and no other: it was printed whole, and the status is its
-- own; or the sink failed, a front of it was printed, and the status is 1.
pub record Ended (so : Result (List ℕ) Stop → Type 0) (before after : SinkView) (status : ℕ) : Type 0 where
  pub end : Result (List ℕ) Stop
  pub is : so end
  pub says : Says (line_of end) (code_of end) status before after

-- The work ended as something that is due, or with a fault or want of memory.
abbrev pub EndsAsDue : (Due → Type 0) → Result (List ℕ) Stop → Type 0
EndsAsDue due end = ((d : Due) × due d × (end ≡ d.end)) ⊎ IsLoose end

-- an own count of a call rose: one of the desk for the files that it reads or writes, or the sink's
abbrev pub OwnRose : List (List ℕ) → List (List ℕ) → DeskView → DeskView → SinkView → SinkView → Type 0
OwnRose inputs outputs old new before after = DeskRose inputs outputs old new ⊎ Rose before.writes after.writes

-- The status comes where its cause holds, and nowhere else. Only a fault or want of memory may come in its place.
abbrev pub ComesWhere : ℕ → ℕ → Type 0 → Type 0
ComesWhere status code cause = (status ≡ code → cause) × (cause → (status ≡ code) ⊎ (status ≡ 1) ⊎ (status ≡ 7))

-- The same of a cause behind which another one may have this status too: with the status one of both holds.
abbrev pub ComesFirst : ℕ → ℕ → Type 0 → Type 0 → Type 0
ComesFirst status code cause later =
    (status ≡ code → cause ⊎ later) × (cause → (status ≡ code) ⊎ (status ≡ 1) ⊎ (status ≡ 7))

-- no file changed but these
abbrev pub OnlyThese : List (List ℕ) → DeskView → DeskView → Type 0
OnlyThese outputs old new = (name : List ℕ) → NoneIs name outputs → new.told name ≡ old.told name

-- each output is as it was, or holds a front of its content as it is due
abbrev pub Fronts : List (List ℕ) → (Due → Type 0) → DeskView → DeskView → Type 0
Fronts outputs due old new = AllKept outputs old new ⊎ ((d : Due) × due d × AllPart d.outs old new)

-- but for 1 and 7 the status is one that is due, with exactly the files that are due
abbrev pub AsDue : (Due → Type 0) → DeskView → DeskView → ℕ → Type 0
AsDue due old new status =
    (status ≡ 1) ⊎ (status ≡ 7) ⊎ ((d : Due) × due d × (status ≡ code_of d.end) × AllExact d.outs old new)
