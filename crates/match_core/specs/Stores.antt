-- The stores of a signature and entries.
use Rattle.std.specs.Prelude.{◌≡◌, ℕ, ◌+◌, ◌==◌, Bool, false, Option, None, Some, if◌then◌else◌, List, [], ◌∷◌, ◌++◌, length}
use Rattle.state_store.specs.declared.shapes.Shape.{Shape}
use Rattle.state_store.specs.declared.shapes.Shape.TheVariants.{Counter, Direct, Register, Meter}
use Rattle.state_store.specs.declared.cells.Cells.{Cells}
use Rattle.state_store.specs.declared.cells.Cells.TheVariants.{Counts, Numbers, Colours}
use Rattle.state_store.specs.State.{Contents, IsStore, new_store}
use Rattle.match_core.specs.declared.signatures.TableSig.{TableSig}
use Rattle.match_core.specs.declared.signatures.ObjectSig.{ObjectSig}
use Rattle.match_core.specs.declared.signatures.Signature.{Signature}
use Rattle.match_core.specs.declared.entries.TableFill.{TableFill}
use Rattle.match_core.specs.declared.entries.Entries.{Entries}

-- this is the direct counter of a table
abbrev pub names : Option ℕ → ℕ → Bool
names None object = false
names (Some direct) object = direct == object

-- how many entries the table has that a direct counter belongs to; 0 where it belongs to none
abbrev pub entries_counted : List TableSig → List TableFill → ℕ → ℕ
entries_counted [] fills object = 0
entries_counted (table ∷ tables) [] object = 0
entries_counted (table ∷ tables) (fill ∷ fills) object =
    if names table.direct object then length fill.entries else entries_counted tables fills object

-- the shape of an object once the entries are known: a direct counter has a cell for each of so many entries
-- (P4_14 1.0.5, "Counters"; v1model.p4, `direct_counter`)
abbrev pub sized : Shape → ℕ → Shape
sized (Counter kind cells) entries = Counter kind cells
sized (Direct kind cells) entries = Direct kind entries
sized (Register width cells) entries = Register width cells
sized (Meter cells) entries = Meter cells

-- the shapes of objects, of which the first has this number
abbrev pub shapes_from : Signature → Entries → ℕ → List ObjectSig → List Shape
shapes_from signature entries object [] = []
shapes_from signature entries object (one ∷ others) =
    sized one.shape (entries_counted signature.tables entries.tables object)
    ∷ shapes_from signature entries (object + 1) others

-- the shapes of the objects, in the order of the signature
abbrev pub shapes_of : Signature → Entries → List Shape
shapes_of signature entries = shapes_from signature entries 0 signature.objects

-- a store of the signature and the entries
pub record IsStoreOf (signature : Signature) (entries : Entries) (store : Contents) : Type 0 where
  pub same_shapes : store.shapes ≡ shapes_of signature entries
  pub fits : IsStore store

-- the one of them whose cells are 0 and that has no colours
abbrev pub zero_store : Signature → Entries → Contents
zero_store signature entries = new_store (shapes_of signature entries)

-- the cells of an object to which colours were handed: a meter has them behind those that it has left
abbrev pub handed : Cells → List ℕ → Cells
handed (Counts cells) colours = Counts cells
handed (Numbers cells) colours = Numbers cells
handed (Colours left) colours = Colours (left ++ colours)

-- the cells of objects, to each of which the colours at its place were handed
abbrev pub with_colours : List Cells → List (List ℕ) → List Cells
with_colours [] colours = []
with_colours (cells ∷ others) [] = cells ∷ others
with_colours (cells ∷ others) (more ∷ colours) = handed cells more ∷ with_colours others colours

-- the zero store with the colours of the entries: the store that a run begins with (this project's own)
abbrev pub first_store : Signature → Entries → Contents
first_store signature entries =
    record {
      shapes = shapes_of signature entries;
      cells = with_colours (zero_store signature entries).cells entries.colours;
    }
