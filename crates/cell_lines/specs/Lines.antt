-- The lines that the report of a run has for counters and registers (this project's own).
use Rattle.std.specs.Prelude.{ℕ, zero, suc, ◌+◌, ◌==◌, ◌&&◌, if◌then◌else◌, List, [], ◌∷◌, ◌++◌, codes}
use Rattle.std.specs.Fmt.{decimal}
use Rattle.state_store.specs.declared.shapes.Shape.{Shape}
use Rattle.state_store.specs.declared.shapes.Shape.TheVariants.{Counter, Direct, Register, Meter}
use Rattle.state_store.specs.State.{Contents, shape_at, pair, read}
use Rattle.match_core.specs.declared.signatures.ObjectSig.{ObjectSig}
use Rattle.match_core.specs.declared.signatures.Signature.{Signature}

-- the line of a cell of a counter, with the packets and the octets that it counted; none where both are 0
abbrev pub counts_line : List ℕ → List ℕ → ℕ → ℕ × ℕ → List ℕ
counts_line word name index counts =
    if (counts.0 == 0) && (counts.1 == 0) then []
    else word ++ 32 ∷ name ++ 32 ∷ decimal index ++ 32 ∷ decimal counts.0 ++ 32 ∷ decimal counts.1 ++ 10 ∷ []

-- the line of a cell of a register; none where its number is 0
abbrev pub number_line : List ℕ → ℕ → ℕ → List ℕ
number_line name index number =
    if number == 0 then [] else codes "register" ++ 32 ∷ name ++ 32 ∷ decimal index ++ 32 ∷ decimal number ++ 10 ∷ []

-- the lines of so many cells, from the first on
abbrev pub first_lines : (ℕ → List ℕ) → ℕ → List ℕ
first_lines line zero = []
first_lines line (suc n) = first_lines line n ++ line n

-- those of an object of this shape
abbrev pub lines_by : Shape → Contents → List ℕ → ℕ → List ℕ
lines_by (Counter kind cells) store name object =
    first_lines (λ index. counts_line (codes "counter") name index (pair store object index)) cells
lines_by (Direct kind cells) store name object =
    first_lines (λ index. counts_line (codes "direct") name index (pair store object index)) cells
lines_by (Register width cells) store name object =
    first_lines (λ index. number_line name index (read store object index)) cells
lines_by (Meter cells) store name object = []

-- those of the object with this name and this number
abbrev pub object_lines : Contents → List ℕ → ℕ → List ℕ
object_lines store name object = lines_by (shape_at store.shapes object) store name object

-- those of objects, of which the first has this number
abbrev pub lines_from : Contents → ℕ → List ObjectSig → List ℕ
lines_from store object [] = []
lines_from store object (one ∷ others) = object_lines store one.name object ++ lines_from store (object + 1) others

-- those of all objects, in the order of the signature
abbrev pub cell_lines : Signature → Contents → List ℕ
cell_lines signature store = lines_from store 0 signature.objects
