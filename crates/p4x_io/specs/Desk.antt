-- What a desk and a sink are to their callers, and what a call does to them: this project's own.
-- Every definition is over plain records, never over the type of a desk.
use Rattle.std.specs.Prelude.{◌≡◌, ◌≢◌, ◌<◌, ◌≤◌, ◌+◌, ◌-◌, ◌^◌, ℕ, min, List, [], ◌∷◌, ◌++◌, length, take, drop, Option, Some, None, Result, Ok, Err}

-- A desk: what it tells of each name (nothing, or that no such file is there, or the octets of
-- the file), and how often a read, and a make or an append, of that name failed.
pub record DeskView : Type 0 where
  pub told : List ℕ → Option (Option (List ℕ))
  pub reads : List ℕ → ℕ
  pub writes : List ℕ → ℕ

-- A sink: what was printed, where it tells it, and how often a write failed.
pub record SinkView : Type 0 where
  pub printed : Option (List ℕ)
  pub writes : ℕ

-- the count after one more: it stands still at its last value
abbrev pub next : ℕ → ℕ
next n = min (n + 1) (2 ^ 64 - 1)

-- the count after a call with this result: one more exactly where the call failed
abbrev pub counted : {T E : Type 0} → Result T E → ℕ → ℕ
counted (Ok value) n = n
counted (Err fault) n = next n

-- the count rose, or stands at its last value
abbrev pub Rose : ℕ → ℕ → Type 0
Rose before now = min (before + 1) (2 ^ 64 - 1) ≤ now

-- none of the names is this one
abbrev pub NoneIs : List ℕ → List (List ℕ) → Type 0
NoneIs name [] = Unit {0}
NoneIs name (out ∷ outs) = (name ≢ out) × NoneIs name outs

-- The desk after some calls: no count fell, and no file changed but those of these names.
pub record Moves (outs : List (List ℕ)) (old new : DeskView) : Type 0 where
  pub reads : (name : List ℕ) → old.reads name ≤ new.reads name
  pub writes : (name : List ℕ) → old.writes name ≤ new.writes name
  pub others : (name : List ℕ) → NoneIs name outs → new.told name ≡ old.told name

-- n octets from a place of the file on came to the front of a slice. An absent file isn't read.
-- Where the file is told, n is 0 only at or past its end.
pub record Reads (file : Option (Option (List ℕ))) (place n : ℕ) (slice : List ℕ) : Type 0 where
  pub fits : n ≤ length slice
  pub there : file ≡ Some None → ⊥
  pub octets : (text : List ℕ) → file ≡ Some (Some text) → take n slice ≡ take n (drop place text)
  pub inside : (text : List ℕ) → file ≡ Some (Some text) → 0 < n → place + n ≤ length text
  pub end : (text : List ℕ) → file ≡ Some (Some text) → n ≡ 0 → length text ≤ place

-- where the files are told, a file with these octets in place of what was there
abbrev pub put : Option (Option (List ℕ)) → List ℕ → Option (Option (List ℕ))
put None text = None
put (Some file) text = Some (Some text)

-- the file with these octets at its end
abbrev pub grown : Option (Option (List ℕ)) → List ℕ → Option (Option (List ℕ))
grown None piece = None
grown (Some None) piece = Some None
grown (Some (Some text)) piece = Some (Some (text ++ piece))

-- what was printed, with these octets at its end
abbrev pub said : Option (List ℕ) → List ℕ → Option (List ℕ)
said None piece = None
said (Some text) piece = Some (text ++ piece)

-- n octets of the piece were taken, and at least one
pub record Takes (piece : List ℕ) (n : ℕ) : Type 0 where
  pub some : 0 < n
  pub fits : n ≤ length piece
