-- What the parts of the work of a command say of their ends (this project's own).
use Rattle.std.specs.Prelude.{◌≡◌, ◌⊎◌, ℕ, List, take, Option, Result, Ok, Err, Vec}
use Rattle.std.specs.declared.alloc.Global.{Global}
use Rattle.p4x_io.specs.Desk.{grown}
use Rattle.file_work.specs.declared.stop.Stop.{Stop}
use Rattle.file_work.specs.declared.stop.Stop.TheVariants.{Fault, Memory}

-- the line of a result whose line is a vector
abbrev pub line_view : Result (Vec ℕ Global) Stop → Result (List ℕ) Stop
line_view (Ok v) = Ok v.items
line_view (Err e) = Err e

-- what stopped a phase is a fault, want of memory, or due
abbrev pub Loosely : Stop → Type 0 → Type 0
Loosely stop P = (stop ≡ Fault) ⊎ (stop ≡ Memory) ⊎ P

-- but for a fault or want of memory this holds
abbrev pub Unless : {A : Type 0} → Type 0 → Result A Stop → Type 0
Unless P (Ok done) = P
Unless P (Err stop) = Loosely stop P

-- The work reads some files first. Where it is done, they were taken. Where it stops, it stops at them, or they were
-- taken and the stop is none that they alone come to; or it is a fault or want of memory.
abbrev pub StopsOrGoesOn : {A : Type 0} → (Stop → Type 0) → Type 0 → (Stop → Type 0) → Result A Stop → Type 0
StopsOrGoesOn stops taken own (Ok done) = taken
StopsOrGoesOn stops taken own (Err stop) = Loosely stop (stops stop ⊎ (taken × (own stop → ⊥)))

-- what a desk tells of a file: nothing, or its content where it is there
abbrev pub Told : Type 0
Told = Option (Option (List ℕ))

-- the file has grown by a front of the content
abbrev pub GrownByFront : Told → List ℕ → Told → Type 0
GrownByFront old content new = (n : ℕ) × (new ≡ grown old (take n content))
