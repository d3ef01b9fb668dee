-- What a call of the program comes to, for any command (this project's own).
use Rattle.std.specs.Prelude.{◌≡◌, ◌⊎◌, ℕ, List, [], ◌∷◌, take, Option, Some, None, Result, Err}
use Rattle.p4x_io.specs.Desk.{DeskView, Rose, Moves, put}
use Rattle.file_work.specs.declared.stop.Stop.{Stop}
use Rattle.file_work.specs.declared.stop.Stop.TheVariants.{Fault, Usage, Memory}

-- what stands in the files of each name; None where there is no such file
abbrev pub Held : Type 0
Held = List ℕ → Option (List ℕ)

-- What is due: each output file by its name, with its content where it is touched, and how the work ends: with its
-- line, or why not.
pub record Due : Type 0 where
  pub outs : List (List ℕ × Option (List ℕ))
  pub end : Result (List ℕ) Stop

-- an output file as it is due, from what it was
abbrev pub IsExact : Option (Option (List ℕ)) → Option (Option (List ℕ)) → Option (List ℕ) → Type 0
IsExact old new None = new ≡ old
IsExact old new (Some content) = new ≡ put old content

-- an output file as it was, or with a front of what is due
abbrev pub IsPart : Option (Option (List ℕ)) → Option (Option (List ℕ)) → Option (List ℕ) → Type 0
IsPart old new None = new ≡ old
IsPart old new (Some content) = (new ≡ old) ⊎ ((n : ℕ) × (new ≡ put old (take n content)))

-- all outputs are as they are due
abbrev pub AllExact : List (List ℕ × Option (List ℕ)) → DeskView → DeskView → Type 0
AllExact [] old new = Unit {0}
AllExact (out ∷ outs) old new = IsExact (old.told out.0) (new.told out.0) out.1 × AllExact outs old new

-- each output is as it was, or holds a front of what is due
abbrev pub AllPart : List (List ℕ × Option (List ℕ)) → DeskView → DeskView → Type 0
AllPart [] old new = Unit {0}
AllPart (out ∷ outs) old new = IsPart (old.told out.0) (new.told out.0) out.1 × AllPart outs old new

-- all outputs are as they were
abbrev pub AllKept : List (List ℕ) → DeskView → DeskView → Type 0
AllKept [] old new = Unit {0}
AllKept (name ∷ names) old new = (new.told name ≡ old.told name) × AllKept names old new

-- a fault or want of memory, which may stand in the place of what is due
abbrev pub IsLoose : Result (List ℕ) Stop → Type 0
IsLoose end = (end ≡ Err Fault) ⊎ (end ≡ Err Memory)

-- The work ends with something that is due, and the files are exactly as that is due. Or it ends with a fault or want
-- of memory: then each output is as it was, or holds a front of what is due.
abbrev pub Leaves : List (List ℕ) → (Due → Type 0) → Result (List ℕ) Stop → DeskView → DeskView → Type 0
Leaves outputs due end old new = ((d : Due) × due d × (end ≡ d.end) × AllExact d.outs old new)
    ⊎ (IsLoose end × AllKept outputs old new)
    ⊎ (IsLoose end × ((d : Due) × due d × AllPart d.outs old new))

-- the desk tells these files, and they are those
abbrev pub Tells : List (List ℕ) → DeskView → Held → Type 0
Tells [] desk files = Unit {0}
Tells (name ∷ names) desk files = (desk.told name ≡ Some (files name)) × Tells names desk files

-- the read count of one of these names rose
abbrev pub ReadsRose : List (List ℕ) → DeskView → DeskView → Type 0
ReadsRose [] old new = ⊥
ReadsRose (name ∷ names) old new = Rose (old.reads name) (new.reads name) ⊎ ReadsRose names old new

-- the write count of one of these names rose
abbrev pub WritesRose : List (List ℕ) → DeskView → DeskView → Type 0
WritesRose [] old new = ⊥
WritesRose (name ∷ names) old new = Rose (old.writes name) (new.writes name) ⊎ WritesRose names old new

-- an own count of a command on the desk rose
abbrev pub DeskRose : List (List ℕ) → List (List ℕ) → DeskView → DeskView → Type 0
DeskRose inputs outputs old new = ReadsRose inputs old new ⊎ WritesRose outputs old new

-- a fault is answered only with its cause, and a command that has its words doesn't answer that they are wrong
pub record Blames {A : Type 0} (result : Result A Stop) (cause : Type 0) : Type 0 where
  pub fault : result ≡ Err Fault → cause
  pub usage : result ≡ Err Usage → ⊥

-- The work of a command, by the names of the files that it reads and writes and what is due for what they hold.
pub record Works (inputs outputs : List (List ℕ)) (due : Held → Due → Type 0) (old new : DeskView)
    (end : Result (List ℕ) Stop) : Type 0 where
  pub moves : Moves outputs old new
  pub cause : Blames end (DeskRose inputs outputs old new)
  pub leaves : (files : Held) → Tells inputs old files → Leaves outputs (due files) end old new
