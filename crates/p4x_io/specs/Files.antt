-- What the calls on whole files and lines come to: this project's own.
use Rattle.std.specs.Prelude.{◌≡◌, ◌⊎◌, ◌<◌, ◌≤◌, ℕ, List, length, take, Option, Some, Result, Ok, Err, Vec}
use Rattle.std.specs.declared.alloc.Global.{Global}
use Rattle.p4x_io.specs.Desk.{SinkView, Rose, grown, said}
use Rattle.p4x_io.specs.declared.files.ReadFault.{ReadFault}
use Rattle.p4x_io.specs.declared.files.ReadFault.TheVariants.{Failed, Limit, Memory}

-- the file has grown by a front of the text, and not by all of it
abbrev pub GrownInPart : Option (Option (List ℕ)) → List ℕ → Option (Option (List ℕ)) → Type 0
GrownInPart old text new = (n : ℕ) × (n < length text) × (new ≡ grown old (take n text))

-- a front of the text was printed, and not all of it
abbrev pub SaidInPart : Option (List ℕ) → List ℕ → Option (List ℕ) → Type 0
SaidInPart old text new = (n : ℕ) × (n < length text) × (new ≡ said old (take n text))

-- What the reading of a whole file gives: the octets that it holds, which are within the limit, or
-- that it has more. Whether a fault or want of memory comes is said by its count, or free.
abbrev pub ReadGives : ℕ → Option (List ℕ) → Result (Vec ℕ Global) ReadFault → Type 0
ReadGives limit file (Ok text) = (file ≡ Some text.items) × (length text.items ≤ limit)
ReadGives limit file (Err Limit) = (text : List ℕ) × (file ≡ Some text) × (limit < length text)
ReadGives limit file (Err Failed) = Unit {0}
ReadGives limit file (Err Memory) = Unit {0}

-- The line of a status is printed whole and the status stays, or the printing failed: then the
-- sink's count rose, a front of the line was printed, and the status is 1.
pub record Says (line : List ℕ) (due status : ℕ) (old new : SinkView) : Type 0 where
  pub later : old.writes ≤ new.writes
  pub said : ((status ≡ due) × (new.printed ≡ said old.printed line))
      ⊎ ((status ≡ 1) × Rose old.writes new.writes × SaidInPart old.printed line new.printed)
